use Rattle.std.specs.Str.Iter.{split_whitespace_rest}
use Rattle.console.proofs.Parsing.{Sofar}
use Rattle.console.proofs.numbers.numbers.Given as goal

abbrev pub invariant-loop-found : goal.invariant-loop-found
invariant-loop-found g l = Sofar (split_whitespace_rest l.fn.words) (split_whitespace_rest l.words) l.slot-items l.found g.row.N
