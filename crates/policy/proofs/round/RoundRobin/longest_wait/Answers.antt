use Rattle.std.proofs.Common.{refl}
use Rattle.policy.proofs.Fairness.{fair}
use Rattle.policy.proofs.round.RoundRobin.longest_wait.Goals as goal

pub returns : goal.returns
returns c = record { value = refl; fair = fair c.args.self.now }
