-- What an inspection counts on a page. Assumes nothing.
use Rattle.std.specs.Prelude.{ℕ, ◌+◌, ◌/◌, ◌&&◌, List, [], ◌∷◌, length, Some, None, Ok, Err, Option, nat_lt}
use Rattle.std.specs.List.{count_by, range_with_len}
use Rattle.std.specs.Option.{unwrap_or}
use Rattle.fault.specs.declared.kinds.Fault.{Fault}
use Rattle.fault.specs.Refusals.{Checked, ◌>>=◌}
use Rattle.page.specs.Cells.{cell_in}
use Rattle.page.specs.Descriptors.{linked, found}
use Rattle.page.specs.Parts.{Part, object, unused, reader_of}
use Rattle.page.specs.declared.descriptor.Descriptor.{Descriptor}
use Rattle.inspection.specs.declared.survey.Survey.{Survey}

-- the type of the object with the bytes bs, if it is declared
abbrev pub object_type : List Descriptor → List ℕ → Option Descriptor
object_type ts bs = found ts (unwrap_or (cell_in bs 0) 0)

-- field f of the object, 0 where the bytes end before it
abbrev pub field_of : List ℕ → ℕ → ℕ
field_of bs f = unwrap_or (cell_in bs (1 + f)) 0

-- how many of the fields are links and present
abbrev pub present_fields : Descriptor → List ℕ → ℕ
present_fields d bs = count_by (λ f. linked d f && nat_lt 0 (field_of bs f)) (range_with_len 0 d.size)

abbrev pub links_by_type : Option Descriptor → List ℕ → ℕ
links_by_type None bs = 0
links_by_type (Some d) bs = present_fields d bs

-- how many present links the object with the bytes bs has
abbrev pub present_links : List Descriptor → List ℕ → ℕ
present_links ts bs = links_by_type (object_type ts bs) bs

-- one part more is counted
abbrev pub counted : List Descriptor → Survey → Part → Survey
counted ts s (object k bs) = record { objects = s.objects + 1; links = s.links + present_links ts bs; free = s.free }
counted ts s (unused k bs) = record { objects = s.objects; links = s.links; free = length bs / 8 }

abbrev pub tally : List Descriptor → Survey → List Part → Survey
tally ts s [] = s
tally ts s (x ∷ xs) = tally ts (counted ts s x) xs

abbrev pub empty : Survey
empty = record { objects = 0; links = 0; free = 0 }

abbrev pub unless : Option Fault → Survey → Checked Survey
unless None s = Ok s
unless (Some e) s = Err e

-- the counts over all parts that a reader hands out, unless it comes to a fault
abbrev pub surveyed : List Descriptor → ℕ → ℕ → List ℕ → Checked Survey
surveyed ts p n bs = do
  l ← reader_of ts p n bs
  unless l.fault (tally ts empty l.parts)

abbrev pub verdict : Checked Survey → Checked (Unit {0})
verdict (Ok s) = Ok tt
verdict (Err e) = Err e
