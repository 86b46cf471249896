use Rattle.frame.proofs.Swizzles.{set_field, places_set, links_are_fields, append, append_starts, set_field_back, append_back}
use Rattle.frame.proofs.Fields.{field_of}
use Rattle.frame.proofs.laws.changes_stand.Goals as goal

pub returns : goal.returns
returns c = record { field = set_field; places = places_set; links = links_are_fields; append = append; starts = append_starts; field_back = set_field_back; append_back = append_back; fields = field_of }
