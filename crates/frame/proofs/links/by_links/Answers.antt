use Rattle.std.proofs.Common.{false, get_or, subst, rules}
use Rattle.pageset.proofs.Filled.{filled_by}
use Rattle.frame.proofs.links.by_links.Goals as goal

pub returns-clause-each : goal.returns-clause-each
returns-clause-each g c k h =
    let ls = c.link_cells-links.result in
    let xs = c.args.cells.now in
    let e = filled_by _ (λ i y. goal.F-post g c.args.f (get_or ls i false) (get_or xs i 0) y) _ (λ i y q e. search rules) c.from_fn.result 64 c.from_fn.ensures.items k 0 h in
    subst (λ bs. goal.F-post g c.args.f (get_or bs k false) (get_or xs k 0) (get_or c.from_fn.result k 0)) c.link_cells-links.ensures e
