-- Counts of the entries in use. Assumes nothing.
use Rattle.std.proofs.Common.{◌≡◌, ℕ, zero, suc, ◌+◌, ◌<◌, ◌≤◌, Bool, true, false, cond, ◌≢◌, List, [], ◌∷◌, length, get_or, take, set, refl, ◌∙◌, ⊎_elim, add-one, arith, get_or-set_other}
use Rattle.std.proofs.lemmas.List.Sums.{sum_by-set, sum_by-cons, sum_by-take-le, count_by_more_yes}
use Rattle.std.proofs.lemmas.List.{length-set}
use Rattle.std.proofs.lemmas.Bool.{lt-ltb, cases_eq}
use Rattle.std.proofs.lemmas.Bool.Decides.{nat_tests}
use Rattle.pageset.specs.Sets.{tally}
use Rattle.address.specs.Pairing.{owned, in_use, free, Only}

-- one more entry in use
pub owned_put : (xs : List ℕ) (i y : ℕ) → i < length xs → get_or xs i 0 ≡ 0 → 0 < y → owned (set xs i y) ≡ owned xs + 1
owned_put xs i y h z p =
    let e = sum_by-set (λ x. cond (in_use x) 1 0) xs i y 0 h in
    let f = rw (z, lt-ltb 0 y p) at e in
    omega (arith, f)

-- where the first a entries are all in use, at least a are
front : (xs : List ℕ) (a : ℕ) → a ≤ length xs → ((k : ℕ) → k < a → 0 < get_or xs k 0) → owned (take a xs) ≡ a
front xs zero h all = refl
front xs (suc a) h all =
    let less : a < length xs = omega arith in
    let here = all a (omega arith) in
    let e = count_by_more_yes in_use xs a 0 less (lt-ltb 0 (get_or xs a 0) here) in
    let i = front xs a (omega arith) (λ k l. all k (omega arith)) in
    let f : owned (take (a + 1) xs) ≡ a + 1 = omega (arith, e, i) in
    rw add-one at f

-- where the slots 1 to a are all in use, at least a are
pub owned_full : (xs : List ℕ) (a : ℕ) → a < length xs → ((k : ℕ) → 0 < k → k ≤ a → 0 < get_or xs k 0) → a ≤ owned xs
owned_full [] a h all = omega arith
owned_full (x ∷ xs) a h all =
    let short : a ≤ length xs = omega arith in
    let f = front xs a short (λ k l. all (suc k) (omega arith) (omega arith)) in
    omega (arith, f, sum_by-take-le (λ x. cond (in_use x) 1 0) xs a, sum_by-cons (λ x. cond (in_use x) 1 0) x xs)

pub tally_front : (p : ℕ → Bool) (n : ℕ) → tally p (suc n) ≡ cond (p 1) 1 0 + tally (λ k. p (suc k)) n
unfolding tally
tally_front p zero = omega arith
tally_front p (suc n) = let i = tally_front p n in omega (arith, i)

-- where only entries of the set are in use, no more are in use than the set has
owned_tally : (xs : List ℕ) (p : ℕ → Bool) → ((k : ℕ) → 0 < get_or xs k 0 → p (suc k) ≡ true) → owned xs ≤ tally p (length xs)
owned_tally [] p h = omega arith
owned_tally (x ∷ xs) p h =
    let i = owned_tally xs (λ k. p (suc k)) (λ k q. h (suc k) q) in
    let e = sum_by-cons (λ y. cond (in_use y) 1 0) x xs in
    let f = tally_front p (length xs) in
    let here : (0 < x → p 1 ≡ true) = h 0 in
    grind (arith, nat_tests, e, f, i)

pub owned_within : (xs : List ℕ) (p : ℕ → Bool) → length xs ≡ 1025 → get_or xs 0 0 ≡ 0 → Only p xs → owned xs ≤ tally p 1024
owned_within [] p l z h = omega arith
owned_within (x ∷ xs) p l z h =
    let n : length xs ≡ 1024 = omega arith in
    let i : owned xs ≤ tally p 1024 = rw n at (owned_tally xs p (λ k q. h (suc k) q)) in
    let e = sum_by-cons (λ y. cond (in_use y) 1 0) x xs in
    let none : x ≡ 0 = z in
    let f : ◌≡◌ {A = ℕ} (cond (in_use x) 1 0) 0 = rw none refl in
    omega (arith, e, f, i)

-- the pigeonhole: where only wanted pages have slots, and one that is wanted has none, fewer have slots than are wanted
pub owned_fewer : (xs : List ℕ) (p : ℕ → Bool) (n : ℕ) → length xs ≡ 1025 → get_or xs 0 0 ≡ 0 → Only p xs → 0 < n → n ≤ 1024 → get_or xs n 0 ≡ 0 → p n ≡ true → owned xs < tally p 1024
owned_fewer xs p n l z h q m none w =
    let more = owned_put xs n 1 (omega arith) none (omega arith) in
    let all : Only p (set xs n 1) = λ k r.
    ⊎_elim
    (λ (e : k ≡ n). rw e w)
    (λ (e : k ≢ n). h k (rw (get_or-set_other xs n k 1 0 e) at r))
    (cases_eq k n) in
    let first : get_or (set xs n 1) 0 0 ≡ 0 = get_or-set_other xs n 0 1 0 (λ e. omega arith) ∙ z in
    omega (arith, more, owned_within (set xs n 1) p (simp length-set l) first all)

pub free_true : (x : ℕ) → free x ≡ true → x ≡ 0
free_true x h = grind (arith, nat_tests)

pub free_false : (x : ℕ) → free x ≡ false → 0 < x
free_false x h = grind (arith, nat_tests)
