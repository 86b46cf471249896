use Rattle.std.proofs.Common.{◌≡◌, arith, rules}
use Rattle.inspection.specs.Surveys.{links_by_type}
use Rattle.inspection.proofs.Counts.{few_links}
use Rattle.inspection.proofs.survey.links_in.Goals as goal

pub returns-clause-few : goal.returns-clause-few
returns-clause-few c =
    let bs = c.args.bytes.now in
    let v : c.map_or.result ≡ links_by_type c.object_type.result bs = search rules in
    omega (arith, few_links c.object_type.result bs c.object_type.ensures.good)
