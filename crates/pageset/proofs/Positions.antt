-- The first place in a part of a list. Assumes nothing.
use Rattle.std.proofs.Common.{◌≡◌, ℕ, ◌+◌, ◌-◌, ◌<◌, ◌≤◌, Bool, true, false, not, List, length, get_or, take, drop, position, Some, None, sym, ap, ◌∙◌, arith}
use Rattle.std.proofs.lemmas.List.{length-drop, length-take, get_or-drop, get_or-take}
use Rattle.std.proofs.lemmas.List.Quantifiers.{position-Some}
use Rattle.std.proofs.lemmas.List.Sums.{prefix_len_passes}

-- no element passes where no position is found
position_none : {X : Type 0} (p : X → Bool) (xs : List X) → position p xs ≡ None → (k : ℕ) (d : X) → k < length xs → p (get_or xs k d) ≡ false
position_none p xs e k d h = grind (arith, prefix_len_passes (λ x. not (p x)) xs k d)

-- the places from a up to b
module _
    (p : ℕ → Bool) (xs : List ℕ) (a b : ℕ) (low : a ≤ b) (high : b ≤ length xs)
  where
    abbrev pub part : List ℕ
    part = take (b - a) (drop a xs)

    part_at : (k : ℕ) → a ≤ k → k < b → get_or part (k - a) 0 ≡ get_or xs k 0
    part_at k h l =
        let e : a + (k - a) ≡ k = omega arith in
        get_or-take (b - a) (drop a xs) (k - a) 0 (omega arith) ∙ get_or-drop a xs (k - a) 0 ∙ ap (λ i. get_or xs i 0) e

    length_part : length part ≡ b - a
    length_part = grind (arith, length-take (b - a) (drop a xs), length-drop a xs)

    pub none_in : position p part ≡ None → (k : ℕ) → a ≤ k → k < b → p (get_or xs k 0) ≡ false
    none_in e k h l = sym (ap p (part_at k h l)) ∙ position_none p part e (k - a) 0 (omega (arith, length_part))

    pub some_in : (i : ℕ) → position p part ≡ Some i → (a + i < b) × (p (get_or xs (a + i) 0) ≡ true) × ((k : ℕ) → a ≤ k → k < a + i → p (get_or xs k 0) ≡ false)
    some_in i e =
        let h = position-Some p part i 0 e in
        let s : a + i - a ≡ i = omega arith in
        let l : a + i < b = omega (arith, h, length_part) in (
          l,
          sym (ap p (rw s at (part_at (a + i) (omega arith) l))) ∙ h.1,
          λ k q r. sym (ap p (part_at k q (omega arith))) ∙ h.2 (k - a) (omega arith),
        )
