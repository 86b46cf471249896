-- The cells of some bytes as chunks of eight. Assumes nothing.
use Rattle.std.proofs.Common.{◌≡◌, ℕ, zero, suc, ◌+◌, ◌*◌, ◌<◌, List, get_or, take, drop, refl, ap, ◌∙◌, arith, get_or-drop, get_or-take}
use Rattle.std.proofs.lemmas.List.{drop-drop}
use Rattle.std.specs.Int.{from_le_bytes, w64}
use Rattle.std.specs.Simd.{first_chunks}
use Rattle.page.specs.Cells.{cell_at}

pub chunk_at : (k i : ℕ) (bs d : List ℕ) → i < k → get_or (first_chunks 8 k bs) i d ≡ take 8 (drop (8 * i) bs)
chunk_at zero i bs d h = absurd (omega arith)
chunk_at (suc k) zero bs d h = refl
chunk_at (suc k) (suc i) bs d h =
    let e : 8 + 8 * i ≡ 8 * suc i = omega arith in
    chunk_at k i (drop 8 bs) d (omega arith) ∙ ap (take 8) (drop-drop (8 * i) 8 bs ∙ ap (λ m. drop m bs) e)

eight : (xs : List ℕ) → from_le_bytes w64 xs ≡ get_or xs 0 0 + get_or xs 1 0 * 256 + get_or xs 2 0 * 65536 + get_or xs 3 0 * 16777216 + get_or xs 4 0 * 4294967296 + get_or xs 5 0 * 1099511627776 + get_or xs 6 0 * 281474976710656 + get_or xs 7 0 * 72057594037927936
eight xs = refl

pub chunk_cell : (bs : List ℕ) (i : ℕ) → from_le_bytes w64 (take 8 (drop (8 * i) bs)) ≡ cell_at bs i
unfolding cell_at
chunk_cell bs i =
    let b : (j : ℕ) → j < 8 → get_or (take 8 (drop (8 * i) bs)) j 0 ≡ get_or bs (8 * i + j) 0 = λ j h. get_or-take 8 (drop (8 * i) bs) j 0 h ∙ get_or-drop (8 * i) bs j 0 in
    let e = eight (take 8 (drop (8 * i) bs)) in
    let z : 8 * i + 0 ≡ 8 * i = omega arith in
    let b0 = b 0 (omega arith) ∙ ap (λ m. get_or bs m 0) z in
    let b1 = b 1 (omega arith) in
    let b2 = b 2 (omega arith) in
    let b3 = b 3 (omega arith) in
    let b4 = b 4 (omega arith) in
    let b5 = b 5 (omega arith) in
    let b6 = b 6 (omega arith) in
    let b7 = b 7 (omega arith) in
    e ∙ omega arith
