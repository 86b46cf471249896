-- What one change of a pair leaves. Assumes nothing.
use Rattle.address.specs.Pairing.{Sound, owned}
use Rattle.address.specs.declared.table.AddressTable.{AddressTable}

-- all that a table keeps
pub sound : (t : AddressTable) → Sound t.page_of t.slot_of t.slots (owned t.page_of)
sound t = record { agree = t.agree; within = t.within; counted = t.counted; sized = t.sized }
