-- A fault as text: cause, layer, page, cell, field, then page, cell and field of the link. Assumes nothing.
use Rattle.std.specs.Prelude.{ℕ, List, ◌++◌, codes, decimal}
use Rattle.fault.specs.declared.kinds.Fault.{Fault}
use Rattle.fault.specs.declared.kinds.Place.{Place}

abbrev pub place_text : Place → List ℕ
place_text x = decimal x.page ++ (codes " " ++ (decimal x.cell ++ (codes " " ++ decimal x.field)))

abbrev pub fault_text : Fault → List ℕ
fault_text x = decimal x.cause ++ (codes " " ++ (decimal x.layer ++ (codes " " ++ (place_text x.place ++ (codes " " ++ place_text x.link)))))
