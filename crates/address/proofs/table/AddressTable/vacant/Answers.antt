use Rattle.std.proofs.Common.{◌+◌, sym, get_or, arith}
use Rattle.pageset.proofs.Positions.{none_in, some_in}
use Rattle.address.specs.Pairing.{free}
use Rattle.address.proofs.Counting.{free_true, free_false}
use Rattle.address.proofs.table.AddressTable.vacant.Goals as goal

pub returns-in_err-more : goal.returns-in_err-more
returns-in_err-more c =
    let t = c.args.self.now in
    rw c.from_residual.ensures (λ k p q. free_false (get_or t.page_of k 0) (none_in free t.page_of c.args.from (t.slots + 1) (omega arith) (omega (arith, t.within.1.0, t.sized)) (sym c.in_err-more.ensures) k p (omega arith)))

pub returns : goal.returns
returns c =
    let t = c.args.self.now in
    let s = some_in free t.page_of c.args.from (t.slots + 1) (omega arith) (omega (arith, t.within.1.0, t.sized)) c.in_ok-more.more (sym c.in_ok-more.ensures) in
    (omega arith, omega (arith, s.0), free_true _ s.1, λ k p q. free_false (get_or t.page_of k 0) (s.2 k p q))
