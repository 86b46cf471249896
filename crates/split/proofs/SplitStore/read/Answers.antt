use Rattle.std.proofs.Common.{◌≡◌, length, rules}
use Rattle.split.specs.Sides.{of_side, told_of}
use Rattle.split.proofs.Joins.{read_amiss, held_amiss, read_by, held_by_lem}
use Rattle.split.proofs.SplitStore.read.Goals as goal

pub returns-in_err-side-clause-value : goal.returns-in_err-side-clause-value
returns-in_err-side-clause-value g c =
    let e = read_amiss (g.A.Store.pages c.args.self.now.first) (g.B.Store.pages c.args.self.now.second) c.args.n c.in_err-side.field-0.0 (length c.args.buf.now) c.in_err-side.ensures.value in
    search rules

pub returns-in_err-side-clause-buffer : goal.returns-in_err-side-clause-buffer
returns-in_err-side-clause-buffer g c =
    held_amiss (g.A.Store.pages c.args.self.now.first) (g.B.Store.pages c.args.self.now.second) c.args.n c.in_err-side.field-0.0 c.args.buf.now c.in_err-side.ensures.value

pub returns-clause-value : goal.returns-clause-value
returns-clause-value g c =
    let s = c.in_ok-side.side in
    let h = c.in_ok-side.ensures in
    let told : c.map_err.result ≡ told_of c.args.n c.read_side.result = search rules in
    read_by _ (g.A.Store.pages c.args.self.now.first) _ (g.B.Store.pages c.args.self.now.second) h.still.first h.still.second c.args.n s (of_side s g.A.Store.layer g.B.Store.layer) (length c.args.buf.now) c.read_side.result c.map_err.result h.value c.read_side.ensures.value told

pub returns-clause-buffer : goal.returns-clause-buffer
returns-clause-buffer g c =
    let h = c.in_ok-side.ensures in
    held_by_lem _ (g.A.Store.pages c.args.self.now.first) _ (g.B.Store.pages c.args.self.now.second) h.still.first h.still.second c.args.n c.in_ok-side.side c.args.buf.now _ h.value c.read_side.ensures.buffer
