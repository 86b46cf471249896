use Rattle.split.proofs.Joins.{open_by}
use Rattle.split.proofs.SplitStore.is_open.Goals as goal

pub returns-in-Some-clause-value : goal.returns-in-Some-clause-value
returns-in-Some-clause-value g c =
    let was = c.in-Some.ensures.still in
    open_by _ (g.A.Store.pages c.args.self.now.first) _ (g.B.Store.pages c.args.self.now.second) was.first was.second c.args.n c.in-Some.side c.opens.result c.in-Some.ensures.value c.opens.ensures.value
