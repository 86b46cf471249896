-- How many pages have slots. Assumes nothing.
use Rattle.std.proofs.Common.{◌≡◌, ℕ, zero, suc, ◌<◌, ◌≤◌, Bool, true, cond, ◌⊎◌, List, [], ◌∷◌, length, get_or, refl, inl, inr, arith}
use Rattle.std.proofs.lemmas.List.Sums.{sum_by-cons}
use Rattle.std.proofs.lemmas.Bool.{cases_lt}
use Rattle.std.proofs.lemmas.Bool.Decides.{nat_tests}
use Rattle.pageset.specs.Sets.{tally}
use Rattle.address.specs.Pairing.{owned, in_use}
use Rattle.address.proofs.Counting.{tally_front}
use Rattle.stands.specs.Laws.{SlotsSuffice}

-- where only the first a entries are in use, at most a are
owned_few : (xs : List ℕ) (a : ℕ) → ((k : ℕ) → a ≤ k → get_or xs k 0 ≡ 0) → owned xs ≤ a
owned_few [] a h = omega arith
owned_few (x ∷ xs) zero h =
    let i = owned_few xs zero (λ k l. h (suc k) (omega arith)) in
    let e = sum_by-cons (λ y. cond (in_use y) 1 0) x xs in
    let none : x ≡ 0 = h 0 (omega arith) in
    let f : ◌≡◌ {A = ℕ} (cond (in_use x) 1 0) 0 = rw none refl in
    omega (arith, e, f, i)
owned_few (x ∷ xs) (suc a) h =
    let i = owned_few xs a (λ k l. h (suc k) (omega arith)) in
    let e = sum_by-cons (λ y. cond (in_use y) 1 0) x xs in
    grind (arith, nat_tests, e, i)

-- and so too where the first of all is not in use
owned_after : (xs : List ℕ) (a : ℕ) → get_or xs 0 0 ≡ 0 → ((k : ℕ) → a < k → get_or xs k 0 ≡ 0) → owned xs ≤ a
owned_after [] a z h = omega arith
owned_after (x ∷ xs) a z h =
    let i = owned_few xs a (λ k l. h (suc k) (omega arith)) in
    let e = sum_by-cons (λ y. cond (in_use y) 1 0) x xs in
    let none : x ≡ 0 = z in
    let f : ◌≡◌ {A = ℕ} (cond (in_use x) 1 0) 0 = rw none refl in
    omega (arith, e, f, i)

-- where each entry of the set is in use, at least as many are in use as the set has
tally_owned : (xs : List ℕ) (p : ℕ → Bool) → ((k : ℕ) → k < length xs → p (suc k) ≡ true → 0 < get_or xs k 0) → tally p (length xs) ≤ owned xs
unfolding tally
tally_owned [] p h = omega arith
tally_owned (x ∷ xs) p h =
    let i = tally_owned xs (λ k. p (suc k)) (λ k l q. h (suc k) (omega arith) q) in
    let e = sum_by-cons (λ y. cond (in_use y) 1 0) x xs in
    let f = tally_front p (length xs) in
    let here : (p 1 ≡ true → 0 < x) = h 0 (omega arith) in
    grind (arith, nat_tests, e, f, i)

tally_within : (xs : List ℕ) (p : ℕ → Bool) → length xs ≡ 1025 → ((m : ℕ) → 1 ≤ m → m ≤ 1024 → p m ≡ true → 0 < get_or xs m 0) → tally p 1024 ≤ owned xs
tally_within [] p l h = absurd (omega arith)
tally_within (x ∷ xs) p l h =
    let n : length xs ≡ 1024 = omega arith in
    let i : tally p 1024 ≤ owned xs = rw n at (tally_owned xs p (λ k q r. h (suc k) (omega arith) (omega arith) r)) in
    let e = sum_by-cons (λ y. cond (in_use y) 1 0) x xs in
    omega (arith, e, i)

pub slots_suffice : SlotsSuffice
slots_suffice p pages slots a used s all =
    let few : owned pages ≤ a = owned_after pages a s.within.0.0 (λ k l. unused k l (cases_lt 0 (get_or pages k 0))) in
    omega (arith, few, tally_within slots p s.sized.1 all, s.counted.0, s.counted.1)
  where
    unused : (k : ℕ) → a < k → (0 < get_or pages k 0) ⊎ (get_or pages k 0 ≤ 0) → get_or pages k 0 ≡ 0
    unused k l (inl q) = absurd (omega (arith, s.agree.0 k q, s.within.1.1.1 (get_or pages k 0)))
    unused k l (inr q) = omega arith
