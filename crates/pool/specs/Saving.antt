-- Frames are saved and stay. Assumes nothing.
use Rattle.std.specs.Prelude.{◌≡◌, ℕ, false, List, Some, None, Option, ◌≢◌, slice_index_or, slice_set}
use Rattle.page.specs.declared.descriptor.Descriptor.{Descriptor}
use Rattle.frame.specs.declared.frame.Frame.{Frame}
use Rattle.store.specs.Pages.{Page}
use Rattle.stands.specs.Frames.{HasAt, Is, stands_for}
use Rattle.pool.specs.Meaning.{Fine}

-- frame k of the frames after is that of the frames before, unchanged now, and no other differs
pub record Clean (fs fs' : List (Option Frame)) (k : ℕ) : Type 0 where
  pub others : (j : ℕ) → (j ≢ k) → slice_index_or fs' j None ≡ slice_index_or fs j None
  pub none : slice_index_or fs k None ≡ None → fs' ≡ fs
  pub some : (f : Frame) → HasAt fs k f → (g : Frame) × ((fs' ≡ slice_set fs k (Some g)) × (Is g f.page false f.cells × (g.needs ≡ f.needs)))

-- frame k after is that before, unchanged now
pub record CleanAt (fs fs' : List (Option Frame)) (k : ℕ) : Type 0 where
  pub none : slice_index_or fs k None ≡ None → slice_index_or fs' k None ≡ None
  pub some : (f : Frame) → HasAt fs k f → (g : Frame) × (HasAt fs' k g × (Is g f.page false f.cells × (g.needs ≡ f.needs)))

-- the frames after are those before, each unchanged now
abbrev pub Cleaned : List (Option Frame) → List (Option Frame) → Type 0
Cleaned fs fs' = (k : ℕ) → CleanAt fs fs' k

-- all is saved: the store has what is stood for, and nothing of it changed
pub record Saved (ts : List Descriptor) (slots page : List ℕ) (ps : List Page) (fs : List (Option Frame)) (ps' : List Page) (fs' : List (Option Frame)) (known told count : ℕ) : Type 0 where
  pub fine : Fine ts slots page ps' fs' known told count
  pub stands : stands_for ts page ps' fs' ≡ stands_for ts page ps fs
  pub store : ps' ≡ stands_for ts page ps fs
