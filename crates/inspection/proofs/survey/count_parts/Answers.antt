use Rattle.std.proofs.Common.{◌≡◌, rules, length, Some, sym, ap, ◌∙◌, arith}
use Rattle.std.proofs.lemmas.Result.{err_from_is_err_and}
use Rattle.fault.specs.Refusals.{Checked, ◌>>=◌}
use Rattle.page.specs.Parts.{Remaining, after_next}
use Rattle.page.specs.Types.{types, remaining, part_of, seen_part}
use Rattle.inspection.specs.Surveys.{empty, tally, unless}
use Rattle.inspection.specs.declared.survey.Survey.{Survey}
use Rattle.inspection.proofs.Counts.{one_more, at_fault, at_end, few_left}
use Rattle.inspection.proofs.survey.count_parts.Goals as goal

pub loop-part-init : goal.loop-part-init
loop-part-init c =
    let ts = types c.args.catalogue.now in
    let l = remaining c.in_ok-reader.reader in
    let e = c.in_ok-reader.ensures.parts in
    let few = few_left ts c.args.pages c.args.page c.args.bytes.now l e in
    let d : c.default-survey.result ≡ empty = search rules in
    (sym (ap (λ (r : Checked Remaining). r >>= (λ l. unless l.fault (tally ts empty l.parts))) e) ∙ ap (λ s. unless l.fault (tally ts s l.parts)) (sym d), omega (arith, few, ap (λ (s : Survey). s.objects) d), omega (arith, few, ap (λ (s : Survey). s.links) d))

pub returns-in_err-part : goal.returns-in_err-part
returns-in_err-part c =
    let p = err_from_is_err_and c.from_residual-in_err-part.result c.from_residual-in_err-part.ensures.1 in
    let l = remaining c.loop-part.reader in
    let h = sym (ap (λ r. Some (seen_part r)) c.in_err-part.was) ∙ c.in-Some.ensures.part in
    rw (p.1, p.2) (sym (c.loop-part.invariant.0 ∙ at_fault (types c.args.catalogue.now) c.loop-part.survey l.parts l.fault c.in_err-part.field-0.0 h))

pub loop-part-preserved : goal.loop-part-preserved
loop-part-preserved c =
    let ts = types c.args.catalogue.now in
    let l = remaining c.loop-part.reader in
    let x = part_of c.in_ok-part.field-0 in
    let h = sym (ap (λ r. Some (seen_part r)) c.in_ok-part.was) ∙ c.in-Some.ensures.part in
    let m = one_more ts c.loop-part.survey l.parts l.fault x h in
    let after = c.step.ensures.after in
    let fewer = ap (λ (r : Remaining). length r.parts) after in
    let told = c.with-survey.ensures in (
      c.loop-part.invariant.0 ∙ ap (unless l.fault) (m.0 ∙ ap (λ s. tally ts s (after_next l).parts) (sym told.value))
          ∙ sym (ap (λ (r : Remaining). unless r.fault (tally ts c.with-survey.result r.parts)) after),
      omega (arith, m.1, fewer, told.objects, c.loop-part.invariant.1),
      omega (arith, m.1, fewer, told.links, c.loop-part.invariant.2),
    )

pub returns : goal.returns
returns c =
    let l = remaining c.loop-part.reader in
    sym (c.loop-part.invariant.0 ∙ at_end (types c.args.catalogue.now) c.loop-part.survey l.parts l.fault c.in_default.ensures.part)
