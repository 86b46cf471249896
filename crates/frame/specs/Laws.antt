-- What is proved of the definitions. Assumes nothing.
use Rattle.std.specs.Prelude.{◌≡◌, ℕ, ◌+◌, ◌*◌, ◌^◌, ◌<◌, ◌≤◌, true, false, cond, ◌||◌, List, length, Ok, ◌==◌, slice_index, slice_index_or, slice_set}
use Rattle.page.specs.Descriptors.{declared, linked}
use Rattle.page.specs.Form.{head_of, first_fault}
use Rattle.page.specs.Links.{is_link}
use Rattle.page.specs.Walks.{kind_of, link_cells, field_cells, start_cells, links_to, cells_of, page_of}
use Rattle.page.specs.declared.descriptor.Descriptor.{Descriptor}
use Rattle.address.specs.Pairing.{Returns}
use Rattle.frame.specs.Links.{address, pointer, swizzled, unswizzled}

-- each page that the page xs links to has a slot
abbrev pub Served : List Descriptor → List ℕ → List ℕ → Type 0
Served ts slots xs = (n : ℕ) → links_to ts xs n ≡ true → 0 < slice_index slots n

-- the pages that the page xs links to have the same slots in both
abbrev pub Settled : List Descriptor → List ℕ → List ℕ → List ℕ → Type 0
Settled ts slots slots' xs = (n : ℕ) → links_to ts xs n ≡ true → slice_index slots n ≡ slice_index slots' n

-- the cells from c on are zero, and c is no field
abbrev pub EndsAt : List Descriptor → List ℕ → ℕ → Type 0
EndsAt ts xs c = (0 < c) × (slice_index_or (field_cells ts xs) c false ≡ false) × ((k : ℕ) → c ≤ k → slice_index xs k ≡ 0)

-- cell by cell
abbrev pub Pointwise : Type 0
Pointwise = (ts : List Descriptor) (slots xs : List ℕ) (i : ℕ) → slice_index (swizzled ts slots xs) i ≡ cond (slice_index_or (link_cells ts xs) i false) (address slots (slice_index xs i)) (slice_index xs i)

-- links, fields and objects stand where they stood
abbrev pub SamePlaces : Type 0
SamePlaces = (ts : List Descriptor) (slots xs : List ℕ) → (link_cells ts (swizzled ts slots xs) ≡ link_cells ts xs) × (field_cells ts (swizzled ts slots xs) ≡ field_cells ts xs) × (start_cells ts (swizzled ts slots xs) ≡ start_cells ts xs)

abbrev pub SamePlacesBack : Type 0
SamePlacesBack = (ts : List Descriptor) (pages xs : List ℕ) → (link_cells ts (unswizzled ts pages xs) ≡ link_cells ts xs) × (field_cells ts (unswizzled ts pages xs) ≡ field_cells ts xs) × (start_cells ts (unswizzled ts pages xs) ≡ start_cells ts xs)

-- turned back it is the page, where each page that it links to has a slot
abbrev pub Back : Type 0
Back = (ts : List Descriptor) (slots pages xs : List ℕ) → Returns slots pages → Served ts slots xs → unswizzled ts pages (swizzled ts slots xs) ≡ xs

-- other pages may lose and get slots
abbrev pub Unmoved : Type 0
Unmoved = (ts : List Descriptor) (slots slots' xs : List ℕ) → Settled ts slots slots' xs → swizzled ts slots xs ≡ swizzled ts slots' xs

-- a field is set: v as it is, or as an address
abbrev pub SetField : Type 0
SetField =
    (ts : List Descriptor) (slots xs : List ℕ) (i v : ℕ) → slice_index_or (field_cells ts xs) i false ≡ true → swizzled ts slots (slice_set xs i v) ≡ slice_set (swizzled ts slots xs) i (cond (slice_index_or (link_cells ts xs) i false) (address slots v) v)

abbrev pub SetPlaces : Type 0
SetPlaces =
    (ts : List Descriptor) (xs : List ℕ) (i v : ℕ) → slice_index_or (field_cells ts xs) i false ≡ true → (link_cells ts (slice_set xs i v) ≡ link_cells ts xs) × (field_cells ts (slice_set xs i v) ≡ field_cells ts xs) × (start_cells ts (slice_set xs i v) ≡ start_cells ts xs)

abbrev pub LinksAreFields : Type 0
LinksAreFields = (ts : List Descriptor) (xs : List ℕ) (i : ℕ) → slice_index_or (link_cells ts xs) i false ≡ true → slice_index_or (field_cells ts xs) i false ≡ true

-- an object is appended: head u, header h, and fields that are zero already
abbrev pub Append : Type 0
Append =
    (ts : List Descriptor) (slots xs : List ℕ) (c u h : ℕ) → EndsAt ts xs c → swizzled ts slots (slice_set (slice_set xs 0 u) c h) ≡ slice_set (slice_set (swizzled ts slots xs) 0 u) c h

abbrev pub AppendStarts : Type 0
AppendStarts =
    (ts : List Descriptor) (xs : List ℕ) (c u h k : ℕ) → EndsAt ts xs c → c < length xs → declared ts h ≡ true → slice_index_or (start_cells ts (slice_set (slice_set xs 0 u) c h)) k false ≡ (slice_index_or (start_cells ts xs) k false || k == c)

-- a page in a frame is the same page after other pages lost and got slots
abbrev pub Kept : Type 0
Kept = (ts : List Descriptor) (slots slots' pages' xs : List ℕ) → Settled ts slots slots' xs → Served ts slots xs → Returns slots' pages' → unswizzled ts pages' (swizzled ts slots xs) ≡ xs

-- a field set and an object appended, seen from the frame
abbrev pub SetFieldBack : Type 0
SetFieldBack =
    (ts : List Descriptor) (pages ys : List ℕ) (i v : ℕ) → slice_index_or (field_cells ts ys) i false ≡ true → unswizzled ts pages (slice_set ys i v) ≡ slice_set (unswizzled ts pages ys) i (cond (slice_index_or (link_cells ts ys) i false) (pointer pages v) v)

abbrev pub AppendBack : Type 0
AppendBack =
    (ts : List Descriptor) (pages ys : List ℕ) (c u h : ℕ) → EndsAt ts ys c → unswizzled ts pages (slice_set (slice_set ys 0 u) c h) ≡ slice_set (slice_set (unswizzled ts pages ys) 0 u) c h

-- an address of a slot that has a page leads back to itself
abbrev pub There : Type 0
There =
    (slots pages : List ℕ) (s c : ℕ) → Returns pages slots → 0 < slice_index pages s → c < 64 → address slots (pointer pages (1048512 + 64 * s + c)) ≡ 1048512 + 64 * s + c

-- a page with no fault ends where its head says
abbrev pub ValidEnds : Type 0
ValidEnds = (ts : List Descriptor) (p n : ℕ) (bs : List ℕ) → first_fault p n bs ts ≡ Ok tt → EndsAt ts (cells_of bs) (head_of bs + 1)

-- and its links are absent, or lead to pages 1 to p
abbrev pub ValidLinks : Type 0
ValidLinks = (ts : List Descriptor) (p n : ℕ) (bs : List ℕ) (i : ℕ) → first_fault p n bs ts ≡ Ok tt → slice_index_or (link_cells ts (cells_of bs)) i false ≡ true → is_link p (slice_index (cells_of bs) i) ≡ true

-- and its objects start after the head, have declared types, and lie within the used cells
abbrev pub ValidStarts : Type 0
ValidStarts =
    (ts : List Descriptor) (p n : ℕ) (bs : List ℕ) (k : ℕ) → first_fault p n bs ts ≡ Ok tt → slice_index_or (start_cells ts (cells_of bs)) k false ≡ true → (1 ≤ k) × (declared ts (slice_index (cells_of bs) k) ≡ true) × (k + (kind_of ts (slice_index (cells_of bs) k)).size ≤ head_of bs)

-- bytes to cells and back
abbrev pub PageBack : Type 0
PageBack = (bs : List ℕ) → length bs ≡ 512 → ((j : ℕ) → slice_index bs j < 256) → page_of (cells_of bs) ≡ bs

abbrev pub CellsBack : Type 0
CellsBack = (xs : List ℕ) → length xs ≡ 64 → ((j : ℕ) → slice_index xs j < 2 ^ 64) → cells_of (page_of xs) ≡ xs

-- the fields of an object are fields, and links by its type
abbrev pub FieldOf : Type 0
FieldOf =
    (ts : List Descriptor) (xs : List ℕ) (c f : ℕ) → slice_index_or (start_cells ts xs) c false ≡ true → f < (kind_of ts (slice_index xs c)).size → c + 1 + f < length xs → (slice_index_or (field_cells ts xs) (c + 1 + f) false ≡ true) × (slice_index_or (link_cells ts xs) (c + 1 + f) false ≡ linked (kind_of ts (slice_index xs c)) f)
