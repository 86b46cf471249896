-- The sum of a page's shares. Assumes nothing.
use Rattle.std.proofs.Common.{◌≡◌, ℕ, suc, ◌+◌, ◌*◌, ◌^◌, ◌<◌, ◌≤◌, List, [], ◌∷◌, length, sum_by, get_or, refl, ap, ◌∙◌, arith}
use Rattle.std.proofs.lemmas.List.Sums.{sum_by-cons}
use Rattle.std.proofs.lemmas.Nat.{mul-le}
use Rattle.std.specs.List.{enumerate_from}
use Rattle.checks.specs.Layer.{weighted}

-- the share of a byte beside its place
abbrev pub share : ℕ × ℕ → ℕ
share p = (p.0 + 1) * p.1

pub shares : (n : ℕ) (bs : List ℕ) → sum_by share (enumerate_from n bs) ≡ weighted (n + 1) bs
shares n [] = refl
shares n (b ∷ bs) = sum_by-cons share (n, b) (enumerate_from (n + 1) bs) ∙ ap (λ m. (n + 1) * b + m) (shares (n + 1) bs)

-- no sum is larger than all the places times the largest share
weighted_few : (k m : ℕ) (bs : List ℕ) → ((i : ℕ) → get_or bs i 0 < 256) → k + length bs ≤ m → weighted k bs ≤ length bs * (m * 256)
weighted_few k m [] small w = omega arith
weighted_few k m (b ∷ bs) small w =
    let here : k * b ≤ m * 256 = mul-le k b m 256 (omega (arith, w)) (omega (arith, small 0)) in
    let more : (1 + length bs) * (m * 256) ≡ m * 256 + length bs * (m * 256) = omega arith in
    omega (arith, here, more, weighted_few (k + 1) m bs (λ i. small (suc i)) (omega (arith, w)))

pub shares_few : (bs : List ℕ) → ((i : ℕ) → get_or bs i 0 < 256) → length bs ≤ 512 → sum_by share (enumerate_from 0 bs) < 2 ^ 32
shares_few bs small w = omega (arith, shares 0 bs, weighted_few 1 513 bs small (omega (arith, w)), w)
