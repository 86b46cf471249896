use Rattle.graph.proofs.Runs.{in_order, others_kept, writing_kept}
use Rattle.graph.proofs.Cells.{whole_kept}
use Rattle.graph.proofs.laws.edits_law_stands.Goals as goal

pub returns : goal.returns
returns c = record { in_order = in_order; others = others_kept; writing = writing_kept; whole = whole_kept }
