-- What a field shows in a frame, and what a slot belongs to. Assumes nothing.
use Rattle.std.specs.Prelude.{ℕ, ◌+◌, Bool, false, cond, List, Some, None, Option, ◌==◌, nat_lt, slice_index}
use Rattle.page.specs.Descriptors.{linked}
use Rattle.page.specs.Form.{field_at, type_at}
use Rattle.page.specs.declared.descriptor.Descriptor.{Descriptor}
use Rattle.frame.specs.Links.{address}
use Rattle.frame.specs.declared.frame.Frame.{Frame}

-- field f of the object at cell c of the page with the bytes bs: its number, or the address of its long pointer
abbrev pub field_shown : List Descriptor → List ℕ → List ℕ → ℕ → ℕ → ℕ
field_shown ts slots bs c f = cond (linked (type_at ts bs c) f) (address slots (field_at bs c f)) (field_at bs c f)

-- the page that a slot, counted from 0, belongs to, by each slot's page (slots counted from 1, page 0 is none), of a slots
abbrev pub owner_of : List ℕ → ℕ → ℕ → Option ℕ
owner_of pages a i = cond (nat_lt i a) (cond (slice_index pages (i + 1) == 0) None (Some (slice_index pages (i + 1)))) None

-- the frame holds page n
abbrev pub is_in : ℕ → Option Frame → Bool
is_in n None = false
is_in n (Some f) = f.page == n
