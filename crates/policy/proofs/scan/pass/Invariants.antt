use Rattle.std.proofs.Common.{◌≡◌, ℕ, ◌-◌, List, ◌++◌}
use Rattle.policy.specs.Turns.{span, walk}
use Rattle.policy.proofs.scan.pass.Given as goal

-- what is left of the walk is the walk
abbrev pub invariant-loop-k : goal.invariant-loop-k
invariant-loop-k l = (none : ℕ) (rest : List ℕ) → walk l.occupied none (span l.low (l.high - l.low) ++ rest) l.initial.touched ≡ walk l.occupied none (span l.k (l.high - l.k) ++ rest) l.touched
