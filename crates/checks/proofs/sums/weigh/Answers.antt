use Rattle.std.proofs.Common.{rules, ◌∙◌, arith}
use Rattle.std.specs.List.{enumerate_from}
use Rattle.std.proofs.lemmas.Iterator.{YieldsList-from_slice, YieldsList-from_map}
use Rattle.std.proofs.lemmas.Iterator.Consumers.{YieldsList-from_enumerate, sum_by_from_yields_List, fits_by_from_yields_list}
use Rattle.checks.specs.Layer.{check}
use Rattle.checks.proofs.Weights.{share, shares, shares_few}
use Rattle.checks.proofs.sums.weigh.Goals as goal

pub sum-sum-requires-clause-fits : goal.sum-sum-requires-clause-fits
sum-sum-requires-clause-fits c =
    fits_by_from_yields_list share (enumerate_from 0 c.args.bytes.now) _ _
    (YieldsList-from_map _ share (YieldsList-from_enumerate (YieldsList-from_slice c.args.bytes.now (cc)) (cc)) (cc) (λ x r q k. search rules))
    (shares_few c.args.bytes.now (λ i. omega (arith, c.type_inv.bytes i)) c.requires)

pub returns : goal.returns
unfolding check
returns c =
    c.from.ensures
    ∙ sum_by_from_yields_List share (enumerate_from 0 c.args.bytes.now) _ c.sum-sum.result c.sum-sum.ensures.ran
    (YieldsList-from_map _ share (YieldsList-from_enumerate (YieldsList-from_slice c.args.bytes.now (cc)) (cc)) (cc) (λ x r q k. search rules))
    ∙ shares 0 c.args.bytes.now
