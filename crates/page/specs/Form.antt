-- The form of a page, and the first fault of one that has another. Assumes nothing.
use Rattle.std.specs.Prelude.{ℕ, zero, suc, ◌+◌, ◌-◌, not, ◌||◌, List, length, Ok, ◌==◌, nat_le}
use Rattle.fault.specs.declared.kinds.Cause.TheVariants.{HeadTooLarge, UndeclaredType, ObjectTooLong, BadLink, NotZero, WrongLength}
use Rattle.fault.specs.Faults.{nowhere, on_cell, on_field, fault}
use Rattle.fault.specs.Refusals.{Checked, ◌>>=◌, ◌>>◌, ◌else◌}
use Rattle.page.specs.Cells.{cell_at}
use Rattle.page.specs.Descriptors.{linked, declared, type_of}
use Rattle.page.specs.Links.{is_link}
use Rattle.page.specs.declared.descriptor.Descriptor.{Descriptor}

-- the head: how many cells the objects use
abbrev pub head_of : List ℕ → ℕ
head_of bs = cell_at bs 0

-- field f of the object at cell k
abbrev pub field_at : List ℕ → ℕ → ℕ → ℕ
field_at bs k f = cell_at bs (k + 1 + f)

-- the type that the header in cell k names
abbrev pub type_at : List Descriptor → List ℕ → ℕ → Descriptor
type_at ts bs k = type_of ts (cell_at bs k)

-- 17: a nonzero cell, among the m cells from k on of page n
abbrev pub unused_fault : ℕ → List ℕ → ℕ → ℕ → Checked (Unit {0})
unused_fault n bs k zero = Ok tt
unused_fault n bs k (suc m) = do
  (cell_at bs k == 0) else fault NotZero 3 (on_cell n k)
  unused_fault n bs (k + 1) m

-- page n, of p pages, with the bytes bs
module _ (p n : ℕ) (bs : List ℕ) where
  -- 16: a link neither absent nor a long pointer, in the m fields from f on of the object at cell k
  abbrev pub links_fault : Descriptor → ℕ → ℕ → ℕ → Checked (Unit {0})
  links_fault d k f zero = Ok tt
  links_fault d k f (suc m) = do
    not (linked d f) || is_link p (field_at bs k f) else fault BadLink 3 (on_field n k f)
    links_fault d k (f + 1) m

  -- the types ts
  module _ (ts : List Descriptor) where
    -- the size of the object at cell k: 14 no declared type, 15 runs past the used cells, then 16
    abbrev pub object_at : ℕ → Checked ℕ
    object_at k = do
      declared ts (cell_at bs k) else fault UndeclaredType 3 (on_cell n k)
      nat_le (k + (type_at ts bs k).size) (head_of bs) else fault ObjectTooLong 3 (on_cell n k)
      links_fault (type_at ts bs k) k 0 (type_at ts bs k).size
      Ok (type_at ts bs k).size

    -- the objects in the m cells from k on, of which the first s are fields of an object before
    abbrev pub objects_fault : ℕ → ℕ → ℕ → Checked (Unit {0})
    objects_fault k zero s = Ok tt
    objects_fault k (suc m) zero = do
      s ← object_at k
      objects_fault (k + 1) m s
    objects_fault k (suc m) (suc s) = objects_fault (k + 1) m s

    -- 13: a head above 63, then the objects from cell 1 to the last used, then the rest
    abbrev pub first_fault : Checked (Unit {0})
    first_fault = do
      nat_le (head_of bs) 63 else fault HeadTooLarge 3 (on_cell n 0)
      objects_fault 1 (head_of bs) 0
      unused_fault n bs (head_of bs + 1) (63 - head_of bs)

    -- 23: no page has another number of bytes
    abbrev pub examined : Checked (Unit {0})
    examined = do
      (length bs == 512) else fault WrongLength 3 nowhere
      first_fault
