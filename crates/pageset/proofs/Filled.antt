-- An array whose elements a closure gave, each of its index. Assumes nothing.
use Rattle.std.proofs.Common.{◌≡◌, ℕ, zero, suc, ◌+◌, ◌<◌, ◌≤◌, ◌≢◌, List, get_or, subst, ⊎_elim, arith}
use denote.Param.Members.{Mut, Called}
use Rattle.std.specs.Array.{IsFromFnResult, IsFromFnResultFrom}
use Rattle.std.proofs.lemmas.Bool.{cases_eq}

-- a call leaves the closure as it is, and R holds of the index and what it gives: so for the array
module _ {F B : Type 0} (g : Mut F (ℕ × Unit {0}) B) (R : ℕ → B → Type 0) (f : F) (gives : (i : ℕ) (y : B) (q : F) → Called g f (i, tt) y q → (q ≡ f) × R i y) where
  filled_from : (ys : List B) (i n : ℕ) → IsFromFnResultFrom g f ys i n → (k : ℕ) (d : B) → i ≤ k → k < i + n → R k (get_or ys k d)
  filled_from ys i zero r k d low high = absurd (omega arith)
  filled_from ys i (suc n) (q, y, at, call, rest) k d low high = ⊎_elim
      (λ (e : k ≡ i). rw (e, at.1 d) (gives i y q call).1)
      (λ (e : k ≢ i). filled_from ys (i + 1) n (subst (λ p. IsFromFnResultFrom g p ys (i + 1) n) (gives i y q call).0 rest) k d (omega arith) (omega arith))
      (cases_eq k i)

  pub filled_by : (ys : List B) (n : ℕ) → IsFromFnResult g f ys n → (k : ℕ) (d : B) → k < n → R k (get_or ys k d)
  filled_by ys n r k d h = filled_from ys 0 n r.each k d (omega arith) (omega arith)

-- the same where it gives v of the index
pub filled : {F B : Type 0} (g : Mut F (ℕ × Unit {0}) B) (v : ℕ → B) (f : F) → ((i : ℕ) (y : B) (q : F) → Called g f (i, tt) y q → (q ≡ f) × (y ≡ v i)) → (ys : List B) (n : ℕ) → IsFromFnResult g f ys n → (k : ℕ) (d : B) → k < n → get_or ys k d ≡ v k
filled g v f gives = filled_by g (λ i y. y ≡ v i) f gives
