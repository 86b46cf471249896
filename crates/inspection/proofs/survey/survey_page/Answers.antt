use Rattle.std.proofs.Common.{◌≡◌, ◌-◌, IfOk, sym, ap, ◌∙◌, subst}
use Rattle.fault.specs.Refusals.{Checked}
use Rattle.page.specs.Form.{head_of}
use Rattle.page.specs.Types.{types}
use Rattle.inspection.specs.Surveys.{verdict}
use Rattle.inspection.specs.declared.survey.Survey.{Survey}
use Rattle.inspection.proofs.Counts.{verdict_is, free_is}
use Rattle.inspection.proofs.survey.survey_page.Goals as goal

pub returns : goal.returns
returns c =
    let ts = types c.args.catalogue.now in
    let bs = c.args.bytes.now in
    let e = c.count_parts.ensures in
    let P : Checked Survey → Type 0 = λ r. IfOk r (λ s. s.free ≡ 63 - head_of bs) in
    record {
      value = e;
      lawful = ap verdict e ∙ verdict_is ts c.args.pages c.args.page bs;
      free = subst P (sym e) (free_is ts c.args.pages c.args.page bs);
    }
