-- What store, table and frames stand for does not change with their own moves. Assumes nothing.
use Rattle.std.specs.Prelude.{◌≡◌, ℕ, ◌+◌, ◌/◌, ◌^◌, ◌<◌, ◌≤◌, Bool, true, false, cond, List, [], ◌∷◌, length, replicate, Some, None, Ok, Option, ◌≢◌, slice_index, slice_index_or, slice_set}
use Rattle.page.specs.Cells.{cell_at, put_cell}
use Rattle.page.specs.Form.{first_fault}
use Rattle.page.specs.Walks.{link_cells, field_cells, start_cells, links_to, cells_of}
use Rattle.page.specs.declared.descriptor.Descriptor.{Descriptor}
use Rattle.store.specs.Pages.{bytes, Page, page_at}
use Rattle.store.specs.Rules.{open_at, written}
use Rattle.pageset.specs.Sets.{tally}
use Rattle.address.specs.Pairing as pairing
use Rattle.address.specs.Pairing.{Agree, Most}
use Rattle.frame.specs.Laws.{Served, Settled, EndsAt}
use Rattle.frame.specs.Links.{address, pointer, swizzled}
use Rattle.frame.specs.declared.frame.Frame.{Frame}
use Rattle.stands.specs.Frames.{HasAt, Lacks, long_cells, long_bytes, stored, saved, Is, Cleared, stands_for, Swizzled, Sound}

module _ (ts : List Descriptor) where
  -- all is in order, and the pages gs are what is stood for
  pub record Keeps (slots pages : List ℕ) (ps : List Page) (fs : List (Option Frame)) (gs : List Page) : Type 0 where
    pub sound : Sound ts slots pages ps fs
    pub stands : stands_for ts pages ps fs ≡ gs

-- another table, in which the pages that framed pages link to have the slots that they had
abbrev pub Provides : Type 0
Provides =
    (ts : List Descriptor) (slots pages slots' pages' : List ℕ) (ps : List Page) (fs : List (Option Frame)) → Sound ts slots pages ps fs → Agree pages' slots' → ((i : ℕ) (f : Frame) → HasAt fs i f → Settled ts slots slots' (long_cells ts pages f)) → Keeps ts slots' pages' ps fs (stands_for ts pages ps fs)

-- a frame is emptied, after a changed page has been written back
abbrev pub Empties : Type 0
Empties =
    (ts : List Descriptor) (slots pages : List ℕ) (ps : List Page) (fs : List (Option Frame)) (i : ℕ) (f : Frame) → Sound ts slots pages ps fs → HasAt fs i f → Keeps ts slots pages (cond f.changed (written ps f.page (long_bytes ts pages f)) ps) (slice_set fs i None) (stands_for ts pages ps fs)

-- page n, which is readable, in no frame and links to pages with slots, comes into an empty frame
abbrev pub Brings : Type 0
Brings =
    (ts : List Descriptor) (slots pages : List ℕ) (ps : List Page) (fs : List (Option Frame)) (i n : ℕ) (bs : List ℕ) (g : Frame) → Sound ts slots pages ps fs → slice_index_or fs i None ≡ None → Lacks fs n → 0 < n → n ≤ length ps → (page_at ps n).content ≡ bytes bs → length bs ≡ 512 → ((j : ℕ) → slice_index bs j < 256) → Served ts slots (cells_of bs) → Is g n false (swizzled ts slots (cells_of bs)) → Keeps ts slots pages ps (slice_set fs i (Some g)) (stands_for ts pages ps fs)

-- field cell c of a framed page is set to v, as it is or as an address
abbrev pub Sets : Type 0
Sets =
    (ts : List Descriptor) (slots pages : List ℕ) (ps : List Page) (fs : List (Option Frame)) (i c v : ℕ) (f g : Frame) → Sound ts slots pages ps fs → HasAt fs i f → open_at ps f.page ≡ true → slice_index_or (field_cells ts f.cells) c false ≡ true → (slice_index_or (link_cells ts f.cells) c false ≡ true → (v ≢ 0) → 0 < slice_index slots (v / 64)) → Is g f.page true (slice_set f.cells c (cond (slice_index_or (link_cells ts f.cells) c false) (address slots v) v)) → Keeps ts slots pages ps (slice_set fs i (Some g)) (written (stands_for ts pages ps fs) f.page (put_cell (long_bytes ts pages f) c v))

-- one frame is saved and stays
abbrev pub Saves : Type 0
Saves =
    (ts : List Descriptor) (slots pages : List ℕ) (ps : List Page) (fs : List (Option Frame)) (i : ℕ) (f g : Frame) → Sound ts slots pages ps fs → HasAt fs i f → Is g f.page false f.cells → Keeps ts slots pages (cond f.changed (written ps f.page (long_bytes ts pages f)) ps) (slice_set fs i (Some g)) (stands_for ts pages ps fs)

-- where no frame is changed the store has all
abbrev pub AllClean : Type 0
AllClean =
    (ts : List Descriptor) (slots pages : List ℕ) (ps : List Page) (fs : List (Option Frame)) → Sound ts slots pages ps fs → ((i : ℕ) (f : Frame) → HasAt fs i f → f.changed ≡ false) → stands_for ts pages ps fs ≡ ps

-- all frames saved at once
abbrev pub SavesAll : Type 0
SavesAll =
    (ts : List Descriptor) (slots pages : List ℕ) (ps : List Page) (fs gs : List (Option Frame)) → Sound ts slots pages ps fs → Cleared fs gs → (saved (long_bytes ts pages) ps fs ≡ stands_for ts pages ps fs) × Keeps ts slots pages (saved (long_bytes ts pages) ps fs) gs (stands_for ts pages ps fs)

-- an object of type h is added at cell c, where the page ended; u is the new head
abbrev pub Adds : Type 0
Adds =
    (ts : List Descriptor) (slots pages : List ℕ) (ps : List Page) (fs : List (Option Frame)) (i c u h : ℕ) (f g : Frame) → Sound ts slots pages ps fs → HasAt fs i f → open_at ps f.page ≡ true → EndsAt ts f.cells c → c < 64 → Is g f.page true (slice_set (slice_set f.cells 0 u) c h) → Keeps ts slots pages ps (slice_set fs i (Some g)) (written (stands_for ts pages ps fs) f.page (put_cell (put_cell (long_bytes ts pages f) c h) 0 u))

-- what is stood for, page by page: the frame's, or else the store's
pub record ShownBy (ts : List Descriptor) (pages : List ℕ) (ps : List Page) (fs : List (Option Frame)) : Type 0 where
  pub many : length (stands_for ts pages ps fs) ≡ length ps
  pub held : (i : ℕ) (f : Frame) → HasAt fs i f → (page_at (stands_for ts pages ps fs) f.page).content ≡ bytes (long_bytes ts pages f)
  pub free : (n : ℕ) → Lacks fs n → page_at (stands_for ts pages ps fs) n ≡ page_at ps n
  pub writable : (n : ℕ) → open_at (stands_for ts pages ps fs) n ≡ open_at ps n

abbrev pub Shown : Type 0
Shown = (ts : List Descriptor) (slots pages : List ℕ) (ps : List Page) (fs : List (Option Frame)) → Sound ts slots pages ps fs → ShownBy ts pages ps fs

-- a cell of what is stood for, read in the frame
abbrev pub Reads : Type 0
Reads =
    (ts : List Descriptor) (slots pages : List ℕ) (f : Frame) (c : ℕ) → Swizzled ts slots pages f → Most pages 1024 → ((j : ℕ) → slice_index f.cells j < 2 ^ 64) → c < 64 → cell_at (long_bytes ts pages f) c ≡ cond (slice_index_or (link_cells ts f.cells) c false) (pointer pages (slice_index f.cells c)) (slice_index f.cells c)

-- with no frame in use it is the store's pages
abbrev pub Opens : Type 0
Opens = (ts : List Descriptor) (slots pages : List ℕ) (ps : List Page) (k : ℕ) → Agree pages slots → Keeps ts slots pages ps (replicate k None) ps

-- frames are given up one after another: the store and the frames then
module _ (dec : Frame → List ℕ) where
  abbrev pub store_left : List Page → List (Option Frame) → List ℕ → List Page
  store_left ps fs [] = ps
  store_left ps fs (v ∷ vs) = store_left (stored dec (slice_index_or fs v None) ps) (slice_set fs v None) vs

abbrev pub frames_left : List (Option Frame) → List ℕ → List (Option Frame)
frames_left fs [] = fs
frames_left fs (v ∷ vs) = frames_left (slice_set fs v None) vs

-- page n is read; frames are given up; the table changes; the page comes in
abbrev pub Comes : Type 0
Comes =
    (ts : List Descriptor) (slots pages slots' pages' : List ℕ) (ps : List Page) (fs : List (Option Frame)) (vs : List ℕ) (i n : ℕ) (bs : List ℕ) (g : Frame) → Sound ts slots pages ps fs → Lacks fs n → 0 < n → n ≤ length ps → (page_at ps n).content ≡ bytes bs → length bs ≡ 512 → ((j : ℕ) → slice_index bs j < 256) → slice_index_or (frames_left fs vs) i None ≡ None → Agree pages' slots' → ((j : ℕ) (f : Frame) → HasAt (frames_left fs vs) j f → Settled ts slots slots' (long_cells ts pages f)) → Served ts slots' (cells_of bs) → Is g n false (swizzled ts slots' (cells_of bs)) → Keeps ts slots' pages' (store_left (long_bytes ts pages) ps fs vs) (slice_set (frames_left fs vs) i (Some g)) (stands_for ts pages ps fs)

-- what the making of room says of slots, for a page whose linked pages are marked as needed
abbrev pub Settles : Type 0
Settles =
    (ts : List Descriptor) (slots slots' xs : List ℕ) (needs : ℕ → Bool) → Served ts slots xs → length slots ≡ 1025 → slice_index slots 0 ≡ 0 → ((n : ℕ) → links_to ts xs n ≡ true → needs n ≡ true) → ((m : ℕ) → 0 < m → m ≤ 1024 → needs m ≡ true → 0 < slice_index slots m → slice_index slots' m ≡ slice_index slots m) → Settled ts slots slots' xs

-- a lawful page ends, in its frame, where its head says
abbrev pub LawfulEnds : Type 0
LawfulEnds =
    (ts : List Descriptor) (slots pages : List ℕ) (f : Frame) (p n : ℕ) → Swizzled ts slots pages f → Most pages 1024 → ((j : ℕ) → slice_index f.cells j < 2 ^ 64) → first_fault p n (long_bytes ts pages f) ts ≡ Ok tt → EndsAt ts f.cells (slice_index f.cells 0 + 1)

-- an object starts in the frame where it starts in the page of long pointers
abbrev pub SameStarts : Type 0
SameStarts =
    (ts : List Descriptor) (slots pages : List ℕ) (f : Frame) (k : ℕ) → Swizzled ts slots pages f → Most pages 1024 → ((j : ℕ) → slice_index f.cells j < 2 ^ 64) → slice_index_or (start_cells ts f.cells) k false ≡ slice_index_or (start_cells ts (cells_of (long_bytes ts pages f))) k false

-- where each page of a set has a slot, the set has no more pages than there are slots
abbrev pub SlotsSuffice : Type 0
SlotsSuffice =
    (p : ℕ → Bool) (pages slots : List ℕ) (a used : ℕ) → pairing.Sound pages slots a used → ((m : ℕ) → 1 ≤ m → m ≤ 1024 → p m ≡ true → 0 < slice_index slots m) → tally p 1024 ≤ a
