use Rattle.std.proofs.Common.{◌≡◌}
use Rattle.checks.proofs.Seals.{Part}
use Rattle.checks.proofs.Checks.seal.Given as goal

abbrev pub invariant-loop-n : goal.invariant-loop-n
invariant-loop-n g l = record {
  kept : g.S.Store.kept l.self.lower ≡ g.S.Store.kept l.initial.self.lower;
  part : Part (g.S.Store.pages l.initial.self.lower) (g.S.Store.pages l.self.lower) l.changed l.n;
}
