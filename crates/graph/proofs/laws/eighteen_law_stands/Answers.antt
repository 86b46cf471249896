use Rattle.graph.proofs.Denies.{exactly}
use Rattle.graph.proofs.Eighteen.{at_calls}
use Rattle.graph.proofs.laws.eighteen_law_stands.Goals as goal

pub returns : goal.returns
returns c = record { exactly = exactly; calls = at_calls }
