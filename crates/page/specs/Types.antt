-- What catalogues and readers stand for. Assumes nothing.
use Rattle.std.specs.Prelude.{◌+◌, ◌-◌, List, take, Some, None, Ok, Err, Option}
use Rattle.fault.specs.Refusals.{Checked}
use Rattle.page.specs.Parts as parts
use Rattle.page.specs.Parts.{object, unused, Remaining, nothing, only, head_part, parts_from}
use Rattle.page.specs.declared.catalogue.ClosedCatalogue.{ClosedCatalogue}
use Rattle.page.specs.declared.catalogue.DeclaringCatalogue.{DeclaringCatalogue}
use Rattle.page.specs.declared.catalogue.Table.{Table}
use Rattle.page.specs.declared.descriptor.Descriptor.{Descriptor}
use Rattle.page.specs.declared.reader.Part.{Part}
use Rattle.page.specs.declared.reader.Part.TheVariants.{Object, Unused}
use Rattle.page.specs.declared.reader.Reader.{Reader}
use Rattle.page.specs.declared.reader.Stage.{Stage}
use Rattle.page.specs.declared.reader.Stage.TheVariants.{Reading, Done, Refused}

abbrev pub listed : Table → List Descriptor
listed t = take t.count t.descriptors

-- the types declared so far, in their order
abbrev pub types_so_far : DeclaringCatalogue → List Descriptor
types_so_far k = listed k.table

-- the types of a closed catalogue, in their order
abbrev pub types : ClosedCatalogue → List Descriptor
types k = listed k.table

abbrev pub by_stage : Stage → Remaining → Remaining
by_stage Reading l = l
by_stage Done l = nothing
by_stage (Refused e) l = only e

-- what a reader has yet to hand out
abbrev pub remaining : Reader → Remaining
remaining r =
    by_stage r.stage (head_part r.page.number r.used (parts_from (types r.page.catalogue.now) r.page.pages r.page.number r.page.bytes.now r.used r.cell (r.used + 1 - r.cell) 0))

abbrev pub remaining_of : Checked Reader → Checked Remaining
remaining_of (Ok r) = Ok (remaining r)
remaining_of (Err e) = Err e

-- a part without its loan
abbrev pub part_of : Part → parts.Part
part_of (Object k b) = object k b.now
part_of (Unused k b) = unused k b.now

abbrev pub seen_part : Checked Part → Checked parts.Part
seen_part (Ok x) = Ok (part_of x)
seen_part (Err e) = Err e

abbrev pub seen : Option (Checked Part) → Option (Checked parts.Part)
seen None = None
seen (Some r) = Some (seen_part r)
