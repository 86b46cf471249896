use Rattle.std.proofs.Common.{arith}
use Rattle.pageset.specs.Sets.{holds}
use Rattle.address.specs.Pairing.{owned}
use Rattle.address.proofs.Awarding.{awarded_full}
use Rattle.address.proofs.Changes.{sound}
use Rattle.address.proofs.table.AddressTable.award.Goals as goal

pub returns-in_default-vacant-clause-all : goal.returns-in_default-vacant-clause-all
returns-in_default-vacant-clause-all c few =
    let t = c.loop-page.self in
    let p = holds c.args.wanted.now.words in
    absurd (awarded_full p (holds c.args.self.now.owners.words) (holds c.minus-come.result.words) c.args.self.now.slot_of t.page_of t.slot_of t.slots (owned t.page_of) c.loop-page.next c.loop-page.last (sound t) c.args.self.now.listed c.minus-come.ensures c.loop-page.invariant.1 c.in-Some.page c.in-Some.ensures c.in_default-vacant.ensures (omega arith))
