-- The pages that must have a slot. Assumes nothing.
use Rattle.std.specs.Prelude.{◌≡◌, ℕ, ◌<◌, ◌≤◌, Bool, true, false, ◌||◌, List, [], ◌∷◌, Some, None, Option, slice_index}
use Rattle.pageset.specs.Sets.{holds}
use Rattle.frame.specs.declared.frame.Frame.{Frame}

-- the pages that a frame needs
abbrev pub asks : Option Frame → ℕ → Bool
asks None n = false
asks (Some f) n = holds f.needs.words n

-- the pages that the frames need
abbrev pub needed : List (Option Frame) → ℕ → Bool
needed [] n = false
needed (f ∷ fs) n = asks f n || needed fs n

-- the pages of a set, and those that the frames need
abbrev pub whole : (ℕ → Bool) → List (Option Frame) → ℕ → Bool
whole p fs n = p n || needed fs n

-- each page of a set has a slot
abbrev pub Covers : List ℕ → (ℕ → Bool) → Type 0
Covers slot p = (n : ℕ) → 0 < n → n ≤ 1024 → p n ≡ true → 0 < slice_index slot n
