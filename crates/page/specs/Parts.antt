-- The parts of a page as a reader hands them out. Assumes nothing.
use Rattle.std.specs.Prelude.{◌≡◌, ℕ, zero, suc, ◌+◌, ◌-◌, ◌*◌, cond, List, [], ◌∷◌, length, take, drop, Some, None, Ok, Err, Option, ◌==◌, nat_le}
use Rattle.std.specs.List.{flat_map}
use Rattle.std.specs.Result.{result_err}
use Rattle.fault.specs.declared.kinds.Cause.TheVariants.{HeadTooLarge, WrongLength}
use Rattle.fault.specs.declared.kinds.Fault.{Fault}
use Rattle.fault.specs.Faults.{nowhere, on_cell, fault}
use Rattle.fault.specs.Refusals.{Checked, ◌>>◌, ◌else◌}
use Rattle.page.specs.Form.{head_of, object_at, unused_fault}
use Rattle.page.specs.declared.descriptor.Descriptor.{Descriptor}

-- an object or the unused cells: its first cell and its bytes
pub data Part : Type 0 where
  object : ℕ → List ℕ → Part
  unused : ℕ → List ℕ → Part

-- what a reader has yet to hand out: parts, and after them a fault or none for ever
pub record Remaining : Type 0 where
  pub parts : List Part
  pub fault : Option Fault

abbrev pub nothing : Remaining
nothing = record { parts = []; fault = None }

abbrev pub only : Fault → Remaining
only e = record { parts = []; fault = Some e }

abbrev pub before : Part → Remaining → Remaining
before x l = record { parts = x ∷ l.parts; fault = l.fault }

-- the bytes of the m cells from k on
abbrev pub cell_bytes : List ℕ → ℕ → ℕ → List ℕ
cell_bytes bs k m = take (8 * m) (drop (8 * k) bs)

abbrev pub last_part : List ℕ → ℕ → Checked (Unit {0}) → Remaining
last_part bs k (Ok x) = before (unused k (drop (8 * k) bs)) nothing
last_part bs k (Err e) = only e

-- the object at cell k, unless it has a fault, and then what follows
abbrev pub object_part : List ℕ → ℕ → Checked ℕ → (ℕ → Remaining) → Remaining
object_part bs k (Ok s) f = before (object k (cell_bytes bs k (1 + s))) (f s)
object_part bs k (Err e) f = only e

-- what follows the head u of page n, unless the head is above 63
abbrev pub head_part : ℕ → ℕ → Remaining → Remaining
head_part n u l = cond (nat_le u 63) l (only (fault HeadTooLarge 3 (on_cell n 0)))

-- page n, of p pages, with the bytes bs
module _ (ts : List Descriptor) (p n : ℕ) (bs : List ℕ) where
  -- from cell k on: u used cells in all, m of them left, of which the first s are fields of an object before
  abbrev pub parts_from : ℕ → ℕ → ℕ → ℕ → Remaining
  parts_from u k zero s = last_part bs (u + 1) (unused_fault n bs (u + 1) (63 - u))
  parts_from u k (suc m) zero = object_part bs k (object_at p n bs ts k) (λ s. parts_from u (k + 1) m s)
  parts_from u k (suc m) (suc s) = parts_from u (k + 1) m s

  -- the objects one after another, last the unused cells
  abbrev pub parts_of : Remaining
  parts_of = head_part n (head_of bs) (parts_from (head_of bs) 1 (head_of bs) 0)

  -- what a new reader has before it
  abbrev pub reader_of : Checked Remaining
  reader_of = do
    (length bs == 512) else fault WrongLength 3 nowhere
    Ok parts_of

abbrev pub first_of : List Part → Option Fault → Option (Checked Part)
first_of [] None = None
first_of [] (Some e) = Some (Err e)
first_of (x ∷ xs) o = Some (Ok x)

abbrev pub later_of : List Part → List Part
later_of [] = []
later_of (x ∷ xs) = xs

-- what comes next: the first part, or else the fault, or else none
abbrev pub next_part : Remaining → Option (Checked Part)
next_part l = first_of l.parts l.fault

-- what remains after it: a fault comes again for ever
abbrev pub after_next : Remaining → Remaining
after_next l = record { parts = later_of l.parts; fault = l.fault }

abbrev pub part_bytes : Part → List ℕ
part_bytes (object k bs) = bs
part_bytes (unused k bs) = bs

-- the bytes of all parts, one after another
abbrev pub all_bytes : List Part → List ℕ
all_bytes xs = flat_map part_bytes xs

-- a reader is refused or ends as the first fault f says; without a fault its parts are the whole page after the head
abbrev pub Faithful : Checked Remaining → Checked (Unit {0}) → List ℕ → Type 0
Faithful (Ok l) f bs = (l.fault ≡ result_err f) × (f ≡ Ok tt → all_bytes l.parts ≡ drop 8 bs)
Faithful (Err e) f bs = f ≡ Err e
