-- Going round the frames. Assumes nothing.
use Rattle.std.specs.Prelude.{ℕ, zero, suc, ◌+◌, ◌-◌, Bool, true, false, cond, not, ◌&&◌, List, [], ◌∷◌, ◌++◌, nat_lt, slice_index_or, slice_set}

-- the n frames from k on
unfoldable pub span : ℕ → ℕ → List ℕ
span k zero = []
span k (suc n) = k ∷ span (suc k) n

-- the f frames in turn, from next on
unfoldable pub around : ℕ → ℕ → List ℕ
around f next = span next (f - next) ++ span 0 next

-- the frame after r, going round
abbrev pub following : ℕ → ℕ → ℕ
following f r = cond (nat_lt (r + 1) f) (r + 1) 0

-- where a policy goes on from once it has answered r: after r, or where it was if r is none of the f frames
abbrev pub goes_on : ℕ → ℕ → ℕ → ℕ
goes_on f next r = cond (nat_lt r f) (following f r) next

-- the first occupied one of some frames, or none
unfoldable pub first_held : List Bool → ℕ → List ℕ → ℕ
first_held occupied none [] = none
first_held occupied none (k ∷ ks) = cond (slice_index_or occupied k false) k (first_held occupied none ks)

-- round robin: the first occupied frame after the last victim, going round, or f
unfoldable pub round_taken : List Bool → ℕ → ℕ → ℕ
round_taken occupied f next = first_held occupied f (around f next)

-- the frame that a walk takes, and the touches that it leaves
pub record Came : Type 0 where
  pub frame : ℕ
  pub touched : List Bool

abbrev pub came : ℕ → List Bool → Came
came frame touched = record { frame = frame; touched = touched }

-- an occupied frame that was not touched
abbrev pub idle : List Bool → List Bool → ℕ → Bool
idle occupied touched k = slice_index_or occupied k false && not (slice_index_or touched k false)

-- the touches after a frame is passed: an occupied one is touched no more
abbrev pub passed : List Bool → List Bool → ℕ → List Bool
passed occupied touched k = cond (slice_index_or occupied k false) (slice_set touched k false) touched

-- a walk along some frames takes the first idle one, or none, and passes those before
unfoldable pub walk : List Bool → ℕ → List ℕ → List Bool → Came
walk occupied none [] touched = came none touched
walk occupied none (k ∷ ks) touched = cond (idle occupied touched k) (came k touched) (walk occupied none ks (passed occupied touched k))

-- second chance: the first round
unfoldable pub first_round : List Bool → List Bool → ℕ → ℕ → Came
first_round occupied touched f next = walk occupied f (around f next) touched

-- second chance: what the first round takes, or if it takes none, the first occupied frame of the next round
unfoldable pub chance_taken : List Bool → List Bool → ℕ → ℕ → ℕ
chance_taken occupied touched f next =
    cond (nat_lt (first_round occupied touched f next).frame f) (first_round occupied touched f next).frame (round_taken occupied f next)

-- second chance: the touches left
unfoldable pub chance_left : List Bool → List Bool → ℕ → ℕ → List Bool
chance_left occupied touched f next = (first_round occupied touched f next).touched

-- the touches after a frame is touched: a frame below f is marked
abbrev pub marked : List Bool → ℕ → ℕ → List Bool
marked touched f k = cond (nat_lt k f) (slice_set touched k true) touched
