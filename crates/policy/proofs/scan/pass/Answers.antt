use Rattle.std.proofs.Common.{◌+◌, ◌-◌, ◌++◌, sym, ap, ◌∙◌, arith}
use Rattle.policy.specs.Turns.{span, walk}
use Rattle.policy.proofs.Walking.{walk_empty, walk_touched, walk_idle, walk_over}
use Rattle.policy.proofs.scan.pass.Goals as goal

pub loop-k-preserved-then-not-has : goal.loop-k-preserved-then-not-has
loop-k-preserved-then-not-has c =
    λ none rest. c.loop-k.invariant none rest ∙ walk_empty c.args.occupied.now c.loop-k.touched c.loop-k.k c.args.high (omega arith) (sym c.if-not-has.ensures) none rest

pub returns-then-not-has-2-clause-taken : goal.returns-then-not-has-2-clause-taken
returns-then-not-has-2-clause-taken c =
    λ none rest. c.loop-k.invariant none rest ∙ walk_idle c.args.occupied.now c.loop-k.touched c.loop-k.k c.args.high (omega arith) (sym c.if-not-has.ensures) (sym c.if-not-has-2.ensures) none rest

pub loop-k-preserved : goal.loop-k-preserved
loop-k-preserved c =
    λ none rest.
    c.loop-k.invariant none rest
    ∙ walk_touched c.args.occupied.now c.loop-k.touched c.loop-k.k c.args.high (omega arith) (sym c.if-not-has.ensures) (sym c.if-not-has-2.ensures) none rest
    ∙ ap (λ ts. walk c.args.occupied.now none (span (c.loop-k.k + 1) (c.args.high - (c.loop-k.k + 1)) ++ rest) ts) (sym c.put.ensures)

pub returns-clause-passed : goal.returns-clause-passed
returns-clause-passed c =
    λ e none rest. c.loop-k.invariant none rest ∙ walk_over c.args.occupied.now c.loop-k.touched c.loop-k.k c.args.high (omega arith) none rest
