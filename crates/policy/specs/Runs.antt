-- Round robin over a run of answers. Assumes nothing.
use Rattle.std.specs.Prelude.{◌≡◌, ℕ, ◌<◌, ◌≤◌, Bool, true, false, ◌⊎◌, List, [], ◌∷◌, length, slice_index_or}
use Rattle.policy.specs.Picks.{RoundPicks}
use Rattle.policy.specs.declared.round.RoundRobin.{RoundRobin}

-- asked with these sets of occupied frames in turn, p answers these frames
abbrev pub Run : RoundRobin → List (List Bool) → List ℕ → Type 0
Run p [] [] = Unit {0}
Run p [] (r ∷ rs) = ⊥
Run p (occupied ∷ sets) [] = ⊥
Run p (occupied ∷ sets) (r ∷ rs) = (q : RoundRobin) × (RoundPicks p occupied r q × Run q sets rs)

-- frame k is occupied in each set
abbrev pub Stays : ℕ → List (List Bool) → Type 0
Stays k [] = Unit {0}
Stays k (occupied ∷ sets) = (slice_index_or occupied k false ≡ true) × Stays k sets

-- k is one of the frames
abbrev pub Among : ℕ → List ℕ → Type 0
Among k [] = ⊥
Among k (r ∷ rs) = (r ≡ k) ⊎ Among k rs

-- a frame that stays occupied is taken within n answers
abbrev pub Fair : RoundRobin → ℕ → Type 0
Fair p n = (k : ℕ) (sets : List (List Bool)) (rs : List ℕ) → Run p sets rs → k < p.frames → n ≤ length sets → Stays k sets → Among k rs
