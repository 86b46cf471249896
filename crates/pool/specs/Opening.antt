-- What opening a page answers and leaves. Assumes nothing.
use Rattle.std.specs.Prelude.{◌≡◌, ℕ, ◌<◌, Bool, true, ◌||◌, List, [], length, IfOk, Some, None, Ok, Err, Option, ◌==◌, nat_le, slice_index, slice_index_or}
use Rattle.fault.specs.declared.kinds.Cause.TheVariants.{NoAddresses}
use Rattle.fault.specs.Faults.{on_page, fault}
use Rattle.fault.specs.Refusals.{Checked, ◌>>=◌, ◌>>◌, ◌else◌}
use Rattle.pageset.specs.Sets.{tally}
use Rattle.page.specs.Form.{first_fault}
use Rattle.page.specs.Walks.{cells_of, links_to}
use Rattle.page.specs.declared.descriptor.Descriptor.{Descriptor}
use Rattle.frame.specs.declared.frame.Frame.{Frame}
use Rattle.store.specs.Pages.{Page, bytes, page_at}
use Rattle.stands.specs.Frames.{HasAt, Lacks, long_bytes, stands_for}
use Rattle.graph.specs.Graphs.{fetched}
use Rattle.pool.specs.Meaning.{Fine}

-- page m is wanted when page n, with the bytes bs, is opened beside the pages of a set
abbrev pub wanted_with : List Descriptor → (ℕ → Bool) → ℕ → List ℕ → ℕ → Bool
wanted_with ts standing n bs m = standing m || (m == n || links_to ts (cells_of bs) m)

-- the bytes of page n of the pages ps: its mark, its first fault, and 18 where too many pages are wanted
abbrev pub opening_with : List Descriptor → ℕ → List Page → (ℕ → Bool) → ℕ → Checked (List ℕ)
opening_with ts a ps standing n = do
  bs ← fetched ps n
  first_fault (length ps) n bs ts
  nat_le (tally (wanted_with ts standing n bs) 1024) a else fault NoAddresses 4 (on_page n)
  Ok bs

-- the bytes of a frame's page in long pointers
abbrev pub held_bytes : List Descriptor → List ℕ → Option Frame → List ℕ
held_bytes ts page None = []
held_bytes ts page (Some f) = long_bytes ts page f

-- the bytes of the page in the frame that is answered
abbrev pub found : List Descriptor → List ℕ → List (Option Frame) → Checked ℕ → Checked (List ℕ)
found ts page fs (Ok i) = Ok (held_bytes ts page (slice_index_or fs i None))
found ts page fs (Err e) = Err e

pub record Opened (ts : List Descriptor) (a : ℕ) (slots page : List ℕ) (ps : List Page) (fs : List (Option Frame)) (slots' page' : List ℕ) (ps' : List Page) (fs' : List (Option Frame)) (known told count : ℕ) (standing : ℕ → Bool) (n : ℕ) (r : Checked ℕ) : Type 0 where
  pub fine : Fine ts slots' page' ps' fs' known told count
  -- opening changes nothing of what is stood for
  pub stands : stands_for ts page' ps' fs' ≡ stands_for ts page ps fs
  -- the answer is that of the pages that are stood for
  pub answer : found ts page' fs' r ≡ opening_with ts a (stands_for ts page ps fs) standing n
  -- the page is in the frame that is answered
  pub there : IfOk r (λ i. (f : Frame) × (HasAt fs' i f × (f.page ≡ n)))
  -- the pages of the set keep their slots
  pub kept : (m : ℕ) → standing m ≡ true → 0 < slice_index slots m → slice_index slots' m ≡ slice_index slots m

-- page n of the store, in no frame, has the bytes bs and no fault
pub record Incoming (ts : List Descriptor) (ps : List Page) (fs : List (Option Frame)) (n : ℕ) (bs : List ℕ) : Type 0 where
  pub lacks : Lacks fs n
  pub content : (page_at ps n).content ≡ bytes bs
  pub lawful : first_fault (length ps) n bs ts ≡ Ok tt
