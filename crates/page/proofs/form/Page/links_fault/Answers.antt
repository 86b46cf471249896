use Rattle.std.proofs.Common.{arith}
use Rattle.std.proofs.lemmas.Bool.Decides.{nat_tests}
use Rattle.page.proofs.Steps.{links_more, bad_link}
use Rattle.page.proofs.form.Page.links_fault.Goals as goal

pub returns-in-Err : goal.returns-in-Err
returns-in-Err c =
    let b = bad_link c.args.self.now.pages c.cell_at.result c.in-Err.cause c.in-Err.ensures in
    grind (arith, nat_tests, links_more)
