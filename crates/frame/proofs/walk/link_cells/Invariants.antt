use Rattle.std.proofs.Common.{◌≡◌, ℕ, ◌<◌, false, length, get_or, drop}
use Rattle.page.specs.Types.{types}
use Rattle.page.specs.Walks.{links_from, link_cells}
use Rattle.frame.proofs.walk.link_cells.Given as goal

abbrev pub invariant-loop-i : goal.invariant-loop-i
invariant-loop-i l =
    (length l.links ≡ 64)
    × ((k : ℕ) → k < l.i → get_or l.links k false ≡ get_or (link_cells (types l.catalogue) l.cells) k false)
    × (drop l.i (link_cells (types l.catalogue) l.cells) ≡ links_from (types l.catalogue) l.fields.left l.fields.links (drop l.i l.cells))
