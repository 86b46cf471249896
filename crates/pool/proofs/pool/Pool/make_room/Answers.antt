use Rattle.std.proofs.Common.{ap, ◌∙◌, arith}
use Rattle.pageset.specs.Sets.{holds}
use Rattle.address.specs.declared.table.AddressTable.{AddressTable}
use Rattle.page.specs.Types.{types}
use Rattle.pool.proofs.Frames.{went_turn, enough_empty}
use Rattle.pool.proofs.pool.Pool.make_room.Goals as goal

pub leaving-preserved : goal.leaving-preserved
leaving-preserved g c =
    let s = c.args.self.now in
    let t = c.leaving.self in
    let u = c.leave.new.self in
    let v = c.leaving.invariant in
    let l = c.leave.ensures in
    let left = c.in_ok-leave.ensures.left in (
      record { table = l.rest.table ∙ v.0.table; catalogue = l.rest.catalogue ∙ v.0.catalogue; count = l.rest.count ∙ v.0.count; pages = l.rest.pages ∙ v.0.pages },
      l.policy ∙ v.1,
      went_turn g.V.Policy.picks g.S.Store.pages types (holds c.args.asked.now.words) s.catalogue t.catalogue s.table t.table s.count t.count v.0.catalogue v.0.table v.0.count v.2.0 s.frames s.policy s.store t.frames t.policy t.store c.in_ok-leave.field-0 u.frames u.policy u.store
          v.2.1 left.2 (c.ready.ensures.none c.in_default.is) left.0 left.1 left.3,
    )

pub returns-in_err-leave-clause-succeeds : goal.returns-in_err-leave-clause-succeeds
returns-in_err-leave-clause-succeeds g c few =
    let t = c.leaving.self in
    absurd (c.ready.ensures.none c.in_default.is
    (enough_empty (holds c.args.asked.now.words) t.table.slots t.count t.frames (c.leave.ensures.none c.in_err-leave.was) (omega (arith, t.small))
    (omega (arith, ap (λ (x : AddressTable). x.slots) c.leaving.invariant.0.table, few))))
