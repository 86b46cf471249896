-- What ties a pool to its store and its policy. Assumes nothing.
use Rattle.std.specs.Prelude.{◌≡◌, ℕ, ◌<◌, ◌≤◌, ◌||◌, List, length, Ok, Option, ◌==◌}
use Rattle.pageset.specs.Sets.{holds}
use Rattle.page.specs.Form.{first_fault}
use Rattle.page.specs.Walks.{links_to}
use Rattle.page.specs.declared.descriptor.Descriptor.{Descriptor}
use Rattle.frame.specs.declared.frame.Frame.{Frame}
use Rattle.store.specs.Pages.{Page}
use Rattle.stands.specs.Frames.{HasAt, long_cells, long_bytes, Sound}

-- of the types ts, each page's slot and each slot's page, the store's pages ps and the frames fs; `known` is the number of
-- pages that the pool knows, and `told` the number of frames that its policy was told, of `count`
pub record Fine (ts : List Descriptor) (slots page : List ℕ) (ps : List Page) (fs : List (Option Frame)) (known told count : ℕ) : Type 0 where
  pub sound : Sound ts slots page ps fs
  pub counted : known ≡ length ps
  pub policy : told ≡ count
  -- each page in a frame is lawful
  pub lawful : (i : ℕ) (f : Frame) → HasAt fs i f → first_fault (length ps) f.page (long_bytes ts page f) ts ≡ Ok tt
  -- and needs its own slot and those of the pages that it links to
  pub needs : (i : ℕ) (f : Frame) → HasAt fs i f → (m : ℕ) → 0 < m → m ≤ 1024 → holds f.needs.words m ≡ (m == f.page || links_to ts (long_cells ts page f) m)
