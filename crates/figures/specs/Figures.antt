-- The worked figures: pages with the studio's catalogue and 8 pages, and the checks layer. Assumes nothing.
use Rattle.std.specs.Prelude.{◌≡◌, ℕ, List, [], ◌∷◌, replicate, Some, Ok, Err, Option, Result, slice_set}
use Rattle.std.specs.List.{flat_map}
use Rattle.fault.specs.declared.kinds.Cause.{Cause}
use Rattle.fault.specs.declared.kinds.Cause.TheVariants.{BadLink}
use Rattle.fault.specs.declared.kinds.Fault.{Fault}
use Rattle.fault.specs.declared.kinds.Place.{Place}
use Rattle.fault.specs.Faults.{on_cell, on_field, nowhere}
use Rattle.fault.specs.Refusals.{Checked}
use Rattle.checks.specs.Layer.{check, checked_count, check_page, check_cell}
use Rattle.page.specs.Cells.{cell_at, bytes_of}
use Rattle.page.specs.Descriptors.{studio_types}
use Rattle.page.specs.Form.{examined}
use Rattle.page.specs.Links.{position, link_of}
use Rattle.page.specs.Parts.{Part, object, unused, parts_of}
use Rattle.page.specs.declared.link.Position.{Position}

-- the cells of a page, each given with its number; all others are zero
abbrev pub Cells : Type 0
Cells = List (ℕ × ℕ)

abbrev pub cells_with : Cells → List ℕ
cells_with [] = replicate 64 0
cells_with (c ∷ cs) = slice_set (cells_with cs) c.0 c.1

abbrev pub page_with : Cells → List ℕ
page_with cs = flat_map bytes_of (cells_with cs)

-- the types of the objects among the parts of a page
abbrev pub kinds : List Part → List ℕ
kinds [] = []
kinds (object k bs ∷ xs) = cell_at bs 0 ∷ kinds xs
kinds (unused k bs ∷ xs) = kinds xs

-- a refusal by the page form, with its number
abbrev pub refused : ℕ → Place → Checked (Unit {0})
refused cause at = Err (record { cause = cause; layer = 3; place = at; link = nowhere })

pub data Figure : Type 0 where
  -- the number names this as a link, or is refused
  names : ℕ → Result (Option Position) Cause → Figure
  -- page 1 with these cells is judged so
  judged : Cells → Checked (Unit {0}) → Figure
  -- it has objects of these types
  has : Cells → List ℕ → Figure
  -- a page with only this byte, at this place, has this check
  weighs : ℕ → ℕ → ℕ → Figure
  -- over so many pages the checks layer has so many
  leaves : ℕ → ℕ → Figure
  -- over so many pages, the check of this page is in this page below, in this cell
  stands : ℕ → ℕ → ℕ → ℕ → Figure

abbrev pub Holds : Figure → Type 0
Holds (names x l) = link_of 8 x ≡ l
Holds (judged cs r) = examined 8 1 (page_with cs) studio_types ≡ r
Holds (has cs ts) = kinds (parts_of studio_types 8 1 (page_with cs)).parts ≡ ts
Holds (weighs b i c) = check (slice_set (replicate 512 0) i b) ≡ c
Holds (leaves q p) = checked_count q ≡ p
Holds (stands q n m c) = (check_page q n ≡ m) × (check_cell n ≡ c)

abbrev pub Each : List Figure → Type 0
Each [] = Unit {0}
Each (f ∷ fs) = Holds f × Each fs

abbrev pub table : List Figure
table =
    names 129 (Ok (Some (position 2 1)))
    ∷ names 63 (Err BadLink)
    ∷ names 64 (Err BadLink)
    ∷ names 575 (Ok (Some (position 8 63)))
    ∷ names 577 (Err BadLink)
    ∷ judged ((0, 4) ∷ (1, 5) ∷ (3, 577) ∷ []) (refused 16 (on_field 1 1 1))
    ∷ judged ((0, 4) ∷ (1, 5) ∷ []) (Ok tt)
    ∷ has ((0, 4) ∷ (1, 5) ∷ []) (5 ∷ [])
    ∷ judged ((0, 3) ∷ (1, 5) ∷ []) (refused 15 (on_cell 1 1))
    ∷ judged ((0, 64) ∷ []) (refused 13 (on_cell 1 0))
    ∷ judged ((0, 4) ∷ []) (refused 14 (on_cell 1 1))
    ∷ judged ((0, 4) ∷ (1, 6) ∷ []) (refused 14 (on_cell 1 1))
    ∷ judged ((9, 1) ∷ []) (refused 17 (on_cell 1 9))
    ∷ judged [] (Ok tt)
    ∷ has [] []
    ∷ weighs 1 0 1
    ∷ weighs 255 511 130560
    ∷ leaves 1 0
    ∷ leaves 2 1
    ∷ leaves 65 64
    ∷ leaves 66 64
    ∷ leaves 67 65
    ∷ stands 66 64 65 63
    ∷ []

abbrev pub FiguresHold : Type 0
FiguresHold = Each table
