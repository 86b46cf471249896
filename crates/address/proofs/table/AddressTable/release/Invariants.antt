use Rattle.std.proofs.Common.{◌≡◌, ◌-◌}
use Rattle.pageset.specs.Sets.{holds}
use Rattle.address.proofs.Releasing.{Released}
use Rattle.address.proofs.table.AddressTable.release.Given as goal

abbrev pub invariant-loop-page : goal.invariant-loop-page
invariant-loop-page l = (l.self.slots ≡ l.initial.self.slots) × Released (holds l.wanted.words) l.initial.self.slot_of l.self.slot_of l.last

abbrev pub decreases-loop-page : goal.decreases-loop-page
decreases-loop-page l = 1025 - l.last
