-- A cell that is written, and the cells beside it. Assumes nothing.
use Rattle.std.proofs.Common.{◌≡◌, ℕ, ◌+◌, ◌-◌, ◌*◌, ◌^◌, ◌<◌, ◌≤◌, ◌⊎◌, List, ◌++◌, length, get_or, take, drop, refl, sym, ap, ◌∙◌, inl, inr, ⊎_elim, arith, length-append, length-drop, length-take-le, get_or-drop, get_or-take}
use Rattle.std.proofs.lemmas.List.{get_or_append_left, get_or-append_right}
use Rattle.std.proofs.Math.Seq.{drop-append_seam}
use Rattle.std.proofs.lemmas.Bool.{cases_lt, le-leb}
use Rattle.std.specs.Int.{from_le_bytes, w64}
use Rattle.page.proofs.Chunks.{chunk_cell}
use Rattle.page.specs.Cells.{cell_at, bytes_of, put_at, put_cell}

-- where the bytes have all of the cell
pub put_in : (bs : List ℕ) (i x : ℕ) → 8 * i + 8 ≤ length bs → put_cell bs i x ≡ put_at bs i x
put_in bs i x h = simp (le-leb (8 * i + 8) (length bs) h)

chunk_put : (bs : List ℕ) (i x : ℕ) → 8 * i + 8 ≤ length bs → take 8 (drop (8 * i) (put_at bs i x)) ≡ bytes_of x
unfolding put_at
chunk_put bs i x h =
    let front = take (8 * i) bs in
    let e = length-take-le (8 * i) bs (omega arith) in
    ap (take 8) (ap (λ n. drop n (put_at bs i x)) (sym e) ∙ drop-append_seam front (bytes_of x ++ drop (8 * i + 8) bs))

-- a cell that is written is read back
pub cell_put : (bs : List ℕ) (i x : ℕ) → 8 * i + 8 ≤ length bs → x < 2 ^ 64 → cell_at (put_at bs i x) i ≡ x
cell_put bs i x h lt =
    let e : from_le_bytes w64 (bytes_of x) ≡ x = omega arith in
    sym (chunk_cell (put_at bs i x) i) ∙ ap (from_le_bytes w64) (chunk_put bs i x h) ∙ e

-- the bytes beside it stay
pub byte_beside : (bs : List ℕ) (i x j : ℕ) → 8 * i + 8 ≤ length bs → (j < 8 * i) ⊎ (8 * i + 8 ≤ j) → get_or (put_at bs i x) j 0 ≡ get_or bs j 0
unfolding put_at
byte_beside bs i x j h (inl k) = get_or_append_left (take (8 * i) bs) _ 0 j (omega (arith, length-take-le (8 * i) bs (omega arith))) ∙ get_or-take (8 * i) bs j 0 k
byte_beside bs i x j h (inr k) =
    let e₁ : 8 * i + 8 + (j - (8 * i + 8)) ≡ j = omega arith in
    let e₂ : j - 8 * i - 8 ≡ j - (8 * i + 8) = omega arith in
    get_or-append_right (take (8 * i) bs) _ (8 * i) j 0 (length-take-le (8 * i) bs (omega arith)) (omega arith)
    ∙ get_or-append_right (bytes_of x) (drop (8 * i + 8) bs) 8 (j - 8 * i) 0 refl (omega arith)
    ∙ get_or-drop (8 * i + 8) bs (j - 8 * i - 8) 0
    ∙ ap (λ n. get_or bs (8 * i + 8 + n) 0) e₂ ∙ ap (λ n. get_or bs n 0) e₁

-- and so do the other cells
pub cell_beside : (bs : List ℕ) (i x k : ℕ) → 8 * i + 8 ≤ length bs → (k ≡ i → ⊥) → cell_at (put_at bs i x) k ≡ cell_at bs k
unfolding cell_at
cell_beside bs i x k h ne =
    let apart : (j : ℕ) → j < 8 → (8 * k + j < 8 * i) ⊎ (8 * i + 8 ≤ 8 * k + j) = λ j l. ⊎_elim (λ a. inl (omega arith)) (λ a. inr (omega arith)) (cases_lt k i) in
    let b0 : get_or (put_at bs i x) (8 * k) 0 ≡ get_or bs (8 * k) 0 = byte_beside bs i x (8 * k) h (⊎_elim (λ a. inl (omega arith)) (λ a. inr (omega arith)) (cases_lt k i)) in
    let b1 = byte_beside bs i x (8 * k + 1) h (apart 1 (omega arith)) in
    let b2 = byte_beside bs i x (8 * k + 2) h (apart 2 (omega arith)) in
    let b3 = byte_beside bs i x (8 * k + 3) h (apart 3 (omega arith)) in
    let b4 = byte_beside bs i x (8 * k + 4) h (apart 4 (omega arith)) in
    let b5 = byte_beside bs i x (8 * k + 5) h (apart 5 (omega arith)) in
    let b6 = byte_beside bs i x (8 * k + 6) h (apart 6 (omega arith)) in
    let b7 = byte_beside bs i x (8 * k + 7) h (apart 7 (omega arith)) in
    omega arith

pub length_put : (bs : List ℕ) (i x : ℕ) → 8 * i + 8 ≤ length bs → length (put_at bs i x) ≡ length bs
unfolding put_at
length_put bs i x h =
    omega (arith, length-append (take (8 * i) bs) (bytes_of x ++ drop (8 * i + 8) bs), length-append (bytes_of x) (drop (8 * i + 8) bs), length-take-le (8 * i) bs (omega arith), length-drop (8 * i + 8) bs)
