-- Cells and bytes. Assumes nothing.
use Rattle.std.proofs.Common.{◌≡◌, ℕ, zero, suc, ◌+◌, ◌-◌, ◌*◌, ◌^◌, ◌<◌, ◌≤◌, List, [], ◌∷◌, ◌++◌, map, length, get_or, take, drop, replicate, sym, refl, ap, ◌∙◌, append_assoc, append-nil, arith}
use Rattle.std.specs.List.{range_with_len, flat_map}
use Rattle.std.proofs.lemmas.List.FromFn.{length-map-range_with_len, get_or-map-range_with_len}
use Rattle.std.proofs.lemmas.List.{length-append, length-take-le, take_at, drop_at, drop-drop, drop-replicate, drop_all, flat_map_more, take_more, get_or-append_right, ext_get_or}
use Rattle.page.specs.Cells.{cell_at, bytes_of, put_at}
use Rattle.page.specs.Walks.{cells_of, page_of}
use Rattle.page.proofs.Rounds.{cell_put}
use Rattle.frame.specs.Laws.{PageBack, CellsBack}
use Rattle.frame.proofs.Digits.{one_back}

pub length_joined : (xs : List ℕ) → length (flat_map bytes_of xs) ≡ 8 * length xs
length_joined [] = refl
length_joined (x ∷ xs) = omega (arith, length-append (bytes_of x) (flat_map bytes_of xs), length_joined xs)

pub put_more : (xs bs : List ℕ) (i : ℕ) → i < length xs → i < 64 → bs ≡ flat_map bytes_of (take i xs) ++ replicate (512 - 8 * i) 0 → put_at bs i (get_or xs i 0) ≡ flat_map bytes_of (take (i + 1) xs) ++ replicate (512 - 8 * (i + 1)) 0
unfolding put_at
put_more xs bs i h l e =
    let J : List ℕ = flat_map bytes_of (take i xs) in
    let R : List ℕ = replicate (512 - 8 * i) 0 in
    let x : ℕ = get_or xs i 0 in
    let R' : List ℕ = replicate (512 - 8 * (i + 1)) 0 in
    let n : length J ≡ 8 * i = omega (arith, length_joined (take i xs), length-take-le i xs (omega arith)) in
    let s : 512 - 8 * i - 8 ≡ 512 - 8 * (i + 1) = omega arith in
    let t : take (8 * i) bs ≡ J = ap (take (8 * i)) e ∙ take_at J R (8 * i) n in
    let d : drop (8 * i + 8) bs ≡ R' =
    ap (drop (8 * i + 8)) e ∙ sym (drop-drop 8 (8 * i) (J ++ R)) ∙ ap (drop 8) (drop_at J R (8 * i) n) ∙ drop-replicate 8 (512 - 8 * i) 0 ∙ ap (λ k. replicate k 0) s in
    ap (λ a. a ++ (bytes_of x ++ drop (8 * i + 8) bs)) t
    ∙ ap (λ b. J ++ (bytes_of x ++ b)) d
    ∙ sym (append_assoc J (bytes_of x) R')
    ∙ ap (λ a. a ++ R') (flat_map_more bytes_of [] (take i xs) x ∙ ap (flat_map bytes_of) (sym (take_more xs i 0 h)))

all_back : (bs : List ℕ) (i n : ℕ) → 8 * (i + n) ≤ length bs → ((j : ℕ) → get_or bs j 0 < 256) → flat_map bytes_of (map (cell_at bs) (range_with_len i n)) ++ drop (8 * (i + n)) bs ≡ drop (8 * i) bs
all_back bs i zero h fits = let e : i + 0 ≡ i = omega arith in ap (λ k. drop (8 * k) bs) e
all_back bs i (suc n) h fits =
    let e : i + suc n ≡ i + 1 + n = omega arith in
    let f : 8 * (i + 1) ≡ 8 * i + 8 = omega arith in
    append_assoc (bytes_of (cell_at bs i)) (flat_map bytes_of (map (cell_at bs) (range_with_len (i + 1) n))) (drop (8 * (i + suc n)) bs)
    ∙ ap (λ l. bytes_of (cell_at bs i) ++ l) (ap (λ k. flat_map bytes_of (map (cell_at bs) (range_with_len (i + 1) n)) ++ drop (8 * k) bs) e ∙ all_back bs (i + 1) n (omega arith) fits ∙ ap (λ k. drop k bs) f)
    ∙ one_back bs i (omega arith) fits

pub page_back : PageBack
unfolding cells_of
page_back bs h fits =
    sym (ap (λ l. flat_map bytes_of (map (cell_at bs) (range_with_len 0 64)) ++ l) (drop_all 512 bs (omega arith)) ∙ append-nil _)
    ∙ all_back bs 0 64 (omega arith) fits

first_cell : (x : ℕ) (r : List ℕ) → x < 2 ^ 64 → cell_at (bytes_of x ++ r) 0 ≡ x
unfolding put_at
first_cell x r h = cell_put (0 ∷ 0 ∷ 0 ∷ 0 ∷ 0 ∷ 0 ∷ 0 ∷ 0 ∷ r) 0 x (omega arith) h

next_byte : (x : ℕ) (r : List ℕ) (k j : ℕ) → get_or (bytes_of x ++ r) (8 * suc k + j) 0 ≡ get_or r (8 * k + j) 0
next_byte x r k j =
    let e : 8 * suc k + j - 8 ≡ 8 * k + j = omega arith in
    get_or-append_right (bytes_of x) r 8 (8 * suc k + j) 0 refl (omega arith) ∙ ap (λ i. get_or r i 0) e

next_cell : (x : ℕ) (r : List ℕ) (k : ℕ) → cell_at (bytes_of x ++ r) (suc k) ≡ cell_at r k
unfolding cell_at
next_cell x r k =
    let z : 8 * suc k + 0 ≡ 8 * suc k = omega arith in
    let z' : 8 * k + 0 ≡ 8 * k = omega arith in
    let bs : List ℕ = bytes_of x ++ r in
    let b0 : get_or bs (8 * suc k) 0 ≡ get_or r (8 * k) 0 = ap (λ i. get_or bs i 0) (sym z) ∙ next_byte x r k 0 ∙ ap (λ i. get_or r i 0) z' in
    let b1 : get_or bs (8 * suc k + 1) 0 ≡ get_or r (8 * k + 1) 0 = next_byte x r k 1 in
    let b2 : get_or bs (8 * suc k + 2) 0 ≡ get_or r (8 * k + 2) 0 = next_byte x r k 2 in
    let b3 : get_or bs (8 * suc k + 3) 0 ≡ get_or r (8 * k + 3) 0 = next_byte x r k 3 in
    let b4 : get_or bs (8 * suc k + 4) 0 ≡ get_or r (8 * k + 4) 0 = next_byte x r k 4 in
    let b5 : get_or bs (8 * suc k + 5) 0 ≡ get_or r (8 * k + 5) 0 = next_byte x r k 5 in
    let b6 : get_or bs (8 * suc k + 6) 0 ≡ get_or r (8 * k + 6) 0 = next_byte x r k 6 in
    let b7 : get_or bs (8 * suc k + 7) 0 ≡ get_or r (8 * k + 7) 0 = next_byte x r k 7 in
    omega arith

pub cell_of_page : (xs : List ℕ) (k : ℕ) → k < length xs → ((j : ℕ) → get_or xs j 0 < 2 ^ 64) → cell_at (flat_map bytes_of xs) k ≡ get_or xs k 0
cell_of_page [] k h fits = absurd (omega arith)
cell_of_page (x ∷ xs) zero h fits = first_cell x (flat_map bytes_of xs) (fits 0)
cell_of_page (x ∷ xs) (suc k) h fits = next_cell x (flat_map bytes_of xs) k ∙ cell_of_page xs k (omega arith) (λ j. fits (suc j))

pub cells_back : CellsBack
unfolding cells_of
cells_back xs h fits =
    let n = length-map-range_with_len (cell_at (page_of xs)) 0 64 in
    ext_get_or 0 _ xs (n ∙ sym h) (λ k l. get_or-map-range_with_len (cell_at (page_of xs)) 0 64 k k 0 (omega (arith, n)) (omega arith) ∙ cell_of_page xs k (omega (arith, n)) fits)
