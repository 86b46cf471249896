use Rattle.std.proofs.Common.{Err, ap, ◌∙◌}
use Rattle.fault.specs.declared.kinds.Fault.{Fault}
use Rattle.fault.specs.declared.kinds.Cause.TheVariants.{NoPage}
use Rattle.fault.specs.Faults.{fault}
use Rattle.service.proofs.Stepping.{page_there, page_missing}
use Rattle.service.proofs.service.Service.check_page.Goals as goal

pub returns-then-not-has_page : goal.returns-then-not-has_page
returns-then-not-has_page g c =
    ap (λ (x : Fault). Err x) (c.new.ensures ∙ ap (fault NoPage 2) c.on_page.ensures)
    ∙ page_missing g.S.Store.laws.few c.args.self.now c.args.page c.has_page.result c.has_page.ensures c.if-not-has_page.true

pub returns : goal.returns
returns g c = page_there g.S.Store.laws.few c.args.self.now c.args.page c.has_page.result c.has_page.ensures c.if-not-has_page.false
