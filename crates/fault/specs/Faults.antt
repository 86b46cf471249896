-- Faults by what they name: page 0, cell 64 and field 63 mean none. Assumes nothing.
use Rattle.std.specs.Prelude.{ℕ}
use Rattle.fault.specs.declared.kinds.Cause.{Cause}
use Rattle.fault.specs.declared.kinds.Fault.{Fault}
use Rattle.fault.specs.declared.kinds.Place.{Place}
use Rattle.fault.specs.Causes.{number}

abbrev pub on_field : ℕ → ℕ → ℕ → Place
on_field p k f = record { page = p; cell = k; field = f }

abbrev pub on_cell : ℕ → ℕ → Place
on_cell p k = on_field p k 63

abbrev pub on_page : ℕ → Place
on_page p = on_cell p 64

abbrev pub nowhere : Place
nowhere = on_page 0

-- refused for a cause of ours, by a layer, at a place that no link led to
abbrev pub fault : Cause → ℕ → Place → Fault
fault c l at = record { cause = number c; layer = l; place = at; link = nowhere }

-- the refusal of an unreadable page: a mark names the page alone, whatever its cause
abbrev pub mark : ℕ → ℕ → ℕ → Fault
mark c l p = record { cause = c; layer = l; place = on_page p; link = nowhere }

-- the same fault told of another page
abbrev pub moved : ℕ → Fault → Fault
moved p e = record { cause = e.cause; layer = e.layer; place = on_field p e.place.cell e.place.field; link = e.link }

-- the same fault, come there by a link
abbrev pub via : Place → Fault → Fault
via l e = record { cause = e.cause; layer = e.layer; place = e.place; link = l }
