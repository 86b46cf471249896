use Rattle.std.proofs.Common.{◌≡◌, arith, rules, map, sum, ◌∙◌}
use lib.Count.{ones}
use Rattle.std.proofs.iter.runs.Made.{chains}
use Rattle.std.proofs.lemmas.Iterator.{YieldsList-from_slice}
use Rattle.std.proofs.lemmas.Iterator.Adapters.{fits_from_length, at_most_from_yields_List}
use Rattle.pageset.proofs.Members.{sum_ones}
use Rattle.pageset.proofs.PageSet.count.Goals as goal

pub sum-requires-clause-fits : goal.sum-requires-clause-fits
sum-requires-clause-fits c = fits_from_length _ _ 16 _ (at_most_from_yields_List (YieldsList-from_slice c.args.self.now.words cc) (grind arith)) c.map.ensures.closure (omega arith) (λ x r q k. search rules)

pub returns : goal.returns
returns c =
    let e : c.sum.result ≡ sum (map ones c.args.self.now.words) = search (rules, chains) in
    e ∙ sum_ones c.args.self.now.words c.args.self.now.sized c.args.self.now.bits
