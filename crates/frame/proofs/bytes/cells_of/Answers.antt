use Rattle.std.proofs.Common.{rules}
use Rattle.std.proofs.lemmas.List.FromFn.{fill_by_all}
use Rattle.page.specs.Cells.{cell_at}
use Rattle.page.specs.Walks.{cells_of}
use Rattle.pageset.proofs.Filled.{filled}
use Rattle.frame.proofs.bytes.cells_of.Goals as goal

pub returns-clause-value : goal.returns-clause-value
unfolding cells_of
returns-clause-value c =
    let r = c.from_fn.ensures.items in
    fill_by_all (cell_at c.args.bytes.now) c.from_fn.result 64 0 r.long (λ k h. filled _ (cell_at c.args.bytes.now) _ (λ i y q e. search rules) c.from_fn.result 64 r k 0 h)
