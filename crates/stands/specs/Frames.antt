-- Pages in frames over the store's pages. Assumes nothing.
use Rattle.std.specs.Prelude.{◌≡◌, ℕ, ◌<◌, ◌≤◌, Bool, true, false, cond, List, [], ◌∷◌, length, Some, None, Option, ◌≢◌, slice_index_or}
use Rattle.page.specs.Walks.{page_of}
use Rattle.page.specs.declared.descriptor.Descriptor.{Descriptor}
use Rattle.store.specs.Pages.{Content, bytes, marked, Page, page_at}
use Rattle.store.specs.Rules.{open_at, written}
use Rattle.address.specs.Pairing.{Agree}
use Rattle.frame.specs.Laws.{Served}
use Rattle.frame.specs.Links.{swizzled, unswizzled}
use Rattle.frame.specs.declared.frame.Frame.{Frame}

abbrev pub is_readable : Content → Bool
is_readable (bytes bs) = true
is_readable (marked cause layer) = false

-- frame i has f
abbrev pub HasAt : List (Option Frame) → ℕ → Frame → Type 0
HasAt fs i f = slice_index_or fs i None ≡ Some f

-- no frame has page n
abbrev pub Lacks : List (Option Frame) → ℕ → Type 0
Lacks fs n = (i : ℕ) (f : Frame) → HasAt fs i f → f.page ≢ n

-- over any reading of a frame as bytes
module _ (dec : Frame → List ℕ) where
  abbrev pub lay : Option Frame → List Page → List Page
  lay None ps = ps
  lay (Some f) ps = written ps f.page (dec f)

  -- the store's pages with the frames' over them
  abbrev pub overlay : List Page → List (Option Frame) → List Page
  overlay ps [] = ps
  overlay ps (f ∷ fs) = lay f (overlay ps fs)

  -- a changed frame written back
  abbrev pub stored : Option Frame → List Page → List Page
  stored None ps = ps
  stored (Some f) ps = cond f.changed (written ps f.page (dec f)) ps

  -- and all that are changed
  abbrev pub saved : List Page → List (Option Frame) → List Page
  saved ps [] = ps
  saved ps (f ∷ fs) = stored f (saved ps fs)

  -- no page is in two frames; each is a readable page; an unchanged frame has the store's bytes, and the page of a changed one may be written
  pub record Laid (ps : List Page) (fs : List (Option Frame)) : Type 0 where
    pub apart : (i j : ℕ) (f g : Frame) → HasAt fs i f → HasAt fs j g → f.page ≡ g.page → i ≡ j
    pub within : (i : ℕ) (f : Frame) → HasAt fs i f → (0 < f.page) × (f.page ≤ length ps)
    pub reads : (i : ℕ) (f : Frame) → HasAt fs i f → is_readable (page_at ps f.page).content ≡ true
    pub clean : (i : ℕ) (f : Frame) → HasAt fs i f → f.changed ≡ false → (page_at ps f.page).content ≡ bytes (dec f)
    pub dirty : (i : ℕ) (f : Frame) → HasAt fs i f → f.changed ≡ true → open_at ps f.page ≡ true

-- what a frame holds
pub record Is (g : Frame) (n : ℕ) (b : Bool) (ys : List ℕ) : Type 0 where
  pub page : g.page ≡ n
  pub changed : g.changed ≡ b
  pub cells : g.cells ≡ ys

-- the same frames, all unchanged now
abbrev pub Cleared : List (Option Frame) → List (Option Frame) → Type 0
Cleared fs gs = (i : ℕ) (g : Frame) → HasAt gs i g → (f : Frame) × (HasAt fs i f × Is g f.page false f.cells)

module _ (ts : List Descriptor) where
  -- a frame's cells with long pointers again
  abbrev pub long_cells : List ℕ → Frame → List ℕ
  long_cells pages f = unswizzled ts pages f.cells

  -- and their bytes
  abbrev pub long_bytes : List ℕ → Frame → List ℕ
  long_bytes pages f = page_of (unswizzled ts pages f.cells)

  -- what store, table and frames stand for
  abbrev pub stands_for : List ℕ → List Page → List (Option Frame) → List Page
  stands_for pages ps fs = overlay (long_bytes pages) ps fs

  -- the frame's addresses are those of a page of long pointers whose linked pages all have slots
  pub record Swizzled (slots pages : List ℕ) (f : Frame) : Type 0 where
    pub form : f.cells ≡ swizzled ts slots (unswizzled ts pages f.cells)
    pub served : Served ts slots (unswizzled ts pages f.cells)

  -- the table is one to one, the frames lie over the store, and each is swizzled by the table
  pub record Sound (slots pages : List ℕ) (ps : List Page) (fs : List (Option Frame)) : Type 0 where
    pub table : Agree pages slots
    pub laid : Laid (long_bytes pages) ps fs
    pub frames : (i : ℕ) (f : Frame) → HasAt fs i f → Swizzled slots pages f
