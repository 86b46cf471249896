use Rattle.std.proofs.Common.{◌≡◌, length, rules}
use Rattle.split.specs.Sides.{of_side, closed_at}
use Rattle.split.proofs.Joins.{write_amiss, kept_amiss, write_by, written_by}
use Rattle.split.proofs.SplitStore.write.Goals as goal

pub returns-in_err-side-clause-value : goal.returns-in_err-side-clause-value
returns-in_err-side-clause-value g c =
    let e = write_amiss (g.A.Store.pages c.args.self.now.first) (g.B.Store.pages c.args.self.now.second) c.args.n c.in_err-side.field-0.0 (length c.args.buf.now) c.in_err-side.ensures.value in
    search rules

pub returns-in_err-side-clause-after : goal.returns-in_err-side-clause-after
returns-in_err-side-clause-after g c =
    let h = c.in_err-side.ensures in
    kept_amiss (g.A.Store.pages c.args.self.now.first) (g.B.Store.pages c.args.self.now.second) c.args.n c.in_err-side.field-0.0 c.args.buf.now _ _ h.still.first h.still.second h.value

pub returns-clause-value : goal.returns-clause-value
returns-clause-value g c =
    let s = c.in_ok-side.side in
    let h = c.in_ok-side.ensures in
    let told : c.map_err.result ≡ closed_at c.args.n c.write_side.result = search rules in
    write_by _ (g.A.Store.pages c.args.self.now.first) _ (g.B.Store.pages c.args.self.now.second) h.still.first h.still.second c.args.n s (of_side s g.A.Store.layer g.B.Store.layer) (length c.args.buf.now) c.write_side.result c.map_err.result h.value c.write_side.ensures.value told

pub returns-clause-after : goal.returns-clause-after
returns-clause-after g c =
    let h = c.in_ok-side.ensures in
    let is = c.write_side.ensures in
    written_by _ (g.A.Store.pages c.args.self.now.first) _ (g.B.Store.pages c.args.self.now.second) h.still.first h.still.second c.args.n c.in_ok-side.side c.args.buf.now _ _ h.value is.first is.second
