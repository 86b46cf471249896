use Rattle.graph.proofs.Cells.{cells_last}
use Rattle.graph.proofs.laws.cells_law_stands.Goals as goal

pub returns : goal.returns
returns c = cells_last
