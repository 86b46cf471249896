use Rattle.std.proofs.Common.{sym, refl, ◌∙◌, arith, rules}
use Rattle.page.specs.Types.{types}
use Rattle.page.specs.Walks.{link_cells}
use Rattle.frame.specs.Links.{address}
use Rattle.frame.proofs.Swizzles.{where_each}
use Rattle.frame.proofs.links.swizzle.Goals as goal

pub returns : goal.returns
returns c =
    let xs = c.args.cells.now in
    where_each (address c.args.table.now.slot_of) (link_cells (types c.args.catalogue.now) xs) xs c.by_links.result refl (c.by_links.ensures.long ∙ sym c.told-cells) (λ k h. let e = c.by_links.ensures.each k (omega arith) in search rules)
