-- Slots taken, one after another, from the pages of a set that are not wanted. Assumes nothing.
use Rattle.std.proofs.Common.{◌≡◌, ℕ, ◌<◌, ◌≤◌, Bool, true, false, not, ◌&&◌, List, get_or, sym, refl}

pub minus_true : (x y : Bool) → (x && not y) ≡ true → (x ≡ true) × (y ≡ false)
minus_true true true h = (refl, sym h)
minus_true true false h = (refl, refl)
minus_true false true h = (h, sym h)
minus_true false false h = (h, refl)

-- the pages up to n are done; those above are as they were
pub record Released (p : ℕ → Bool) (old slot : List ℕ) (n : ℕ) : Type 0 where
  pub kept : (k : ℕ) → p k ≡ true → get_or slot k 0 ≡ get_or old k 0
  pub later : (k : ℕ) → n < k → get_or slot k 0 ≡ get_or old k 0
  pub seen : (k : ℕ) → k ≤ n → 0 < get_or slot k 0 → p k ≡ true
