use Rattle.std.proofs.Common.{sym}
use Rattle.std.specs.Str.Iter.{split_whitespace_rest}
use Rattle.console.proofs.Parsing.{first_of, none_yet, one_more, no_more}
use Rattle.console.proofs.numbers.numbers.Goals as goal

pub loop-found-init : goal.loop-found-init
loop-found-init g c = none_yet (split_whitespace_rest c.args.words) g.row.N

pub loop-found-preserved : goal.loop-found-preserved
loop-found-preserved g c =
    let steps = rw c.in_ok-word.ensures.ok_part at c.next.ensures.steps in
    let first = first_of _ c.in_ok-word.word.now _ steps in
    let reads = rw c.in_ok-slot.was at c.number.ensures in
    one_more c.loop-found.invariant c.loop-found-test.true first (reads.0.0, sym reads.1)

pub returns-in-None : goal.returns-in-None
returns-in-None g c = no_more c.loop-found.invariant c.loop-found-test.false c.in-None.ensures.steps.1
