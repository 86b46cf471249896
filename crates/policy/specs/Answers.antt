-- What every policy answers. Assumes nothing.
use Rattle.std.specs.Prelude.{◌≡◌, ℕ, ◌<◌, ◌≤◌, Bool, true, false, List, slice_index_or}

-- an occupied frame below f, or f if there is none
pub record Answer (occupied : List Bool) (f r : ℕ) : Type 0 where
  pub within : r ≤ f
  pub found : r < f → slice_index_or occupied r false ≡ true
  pub none : r ≡ f → (k : ℕ) → k < f → slice_index_or occupied k false ≡ false
