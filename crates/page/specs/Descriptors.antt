-- Type descriptors, and what it is to declare one. Assumes nothing.
use Rattle.std.specs.Prelude.{◌≡◌, ℕ, ◌+◌, ◌-◌, ◌/◌, ◌%◌, ◌^◌, ◌<◌, ◌≤◌, Bool, cond, ◌&&◌, List, [], ◌∷◌, ◌++◌, length, Some, None, Ok, Option, ◌==◌, nat_le, nat_lt, slice_index_or}
use Rattle.fault.specs.declared.kinds.Cause.TheVariants.{CatalogueFull, FieldCount, LinkMask}
use Rattle.fault.specs.Faults.{nowhere, fault}
use Rattle.fault.specs.Refusals.{Checked, ◌>>◌, ◌else◌, if_granted}
use Rattle.page.specs.declared.descriptor.Descriptor.{Descriptor}

-- a type of no fields, which no catalogue has
abbrev pub no_type : Descriptor
no_type = record { size = 0; mask = 0 }

-- field f, counted from 0, is a link
abbrev pub linked : Descriptor → ℕ → Bool
linked d f = d.mask / 2 ^ f % 2 == 1

-- 1 to 62 fields, and no bit of the mask at or above the size
abbrev pub Good : Descriptor → Type 0
Good d = (1 ≤ d.size) × (d.size ≤ 62) × (d.mask / 2 ^ d.size ≡ 0)

abbrev pub AllGood : ℕ → List Descriptor → Type 0
AllGood n ds = (k : ℕ) → k < n → Good (slice_index_or ds k no_type)

-- what declaring a type answers, where ts are declared: its number, or the refusals in their order
abbrev pub declare_answer : List Descriptor → ℕ → ℕ → Checked ℕ
declare_answer ts size mask = do
  nat_lt (length ts) 32 else fault CatalogueFull 1 nowhere
  nat_le 1 size && nat_le size 62 else fault FieldCount 1 nowhere
  (mask / 2 ^ size == 0) else fault LinkMask 1 nowhere
  Ok (length ts + 1)

-- the types declared after it
abbrev pub declare_types : List Descriptor → ℕ → ℕ → List Descriptor
declare_types ts size mask = if_granted (declare_answer ts size mask) (ts ++ record { size = size; mask = mask } ∷ []) ts

-- the types declared after all of a list, one after another
abbrev pub declare_all : List Descriptor → List Descriptor → List Descriptor
declare_all ts [] = ts
declare_all ts (d ∷ ds) = declare_all (declare_types ts d.size d.mask) ds

-- t is the number of a declared type
abbrev pub declared : List Descriptor → ℕ → Bool
declared ts t = nat_lt 0 t && nat_le t (length ts)

-- the type of number t
abbrev pub type_of : List Descriptor → ℕ → Descriptor
type_of ts t = slice_index_or ts (t - 1) no_type

abbrev pub found : List Descriptor → ℕ → Option Descriptor
found ts t = cond (declared ts t) (Some (type_of ts t)) None

-- numeral, lead line, part, view, sheet
abbrev pub studio_types : List Descriptor
studio_types =
    record { size = 3; mask = 6 } ∷ record { size = 6; mask = 48 } ∷ record { size = 4; mask = 14 } ∷ record { size = 4; mask = 14 } ∷ record { size = 3; mask = 6 } ∷ []
