use Rattle.std.proofs.Common.{get_or, None, Err, sym, refl, ap, ◌∙◌, subst}
use Rattle.std.proofs.lemmas.Result.{err_from_is_err_and}
use Rattle.std.proofs.lemmas.Bool.{le-ltb, lt-ltb}
use Rattle.fault.specs.declared.kinds.Cause.TheVariants.{NoField, WrongKind}
use Rattle.fault.specs.Faults.{fault}
use Rattle.fault.specs.Refusals.{Checked}
use Rattle.service.specs.Inner.{asks, Reached}
use Rattle.service.specs.declared.service.reach.Spot.{Spot}
use Rattle.service.proofs.Opening.{kept_by}
use Rattle.service.proofs.Reach.{stood, cursor_page, no_cursor, not_opened, no_field, wrong_kind, there_is, other_kind, right_kind}
use Rattle.service.proofs.service.Service.spot.Goals as goal

pub returns-in_err-at : goal.returns-in_err-at
returns-in_err-at g c =
    let s = c.args.self.now in
    let q = err_from_is_err_and c.from_residual.result c.from_residual.ensures.1 in
    let e = c.in_err-at.field-0.0 in
    record {
      reached = subst (λ (r : Checked Spot). Reached s s c.args.cursor c.args.field c.args.link r) (sym (q.1 ∙ ap Err q.2))
          (no_cursor s c.args.cursor c.args.field c.args.link e (sym c.position.ensures ∙ c.in_err-at.was));
      cursors = refl;
      kept = kept_by s s refl refl refl;
    }

pub returns-in_err-frame : goal.returns-in_err-frame
returns-in_err-frame g c =
    let s = c.args.self.now in
    let t = c.open.new.self in
    let q = err_from_is_err_and c.from_residual-in_err-frame.result c.from_residual-in_err-frame.ensures.1 in
    let e = c.in_err-frame.field-0.0 in
    let at = c.in_ok-at.at in
    let on = stood (get_or s.cursors c.args.cursor None) _ at (sym c.position.ensures ∙ c.in_ok-at.was) in
    record {
      reached = subst (λ (r : Checked Spot). Reached s t c.args.cursor c.args.field c.args.link r) (sym (q.1 ∙ ap Err q.2))
          (not_opened s c.args.cursor c.args.field c.args.link t at on e
          c.in_err-frame.ensures.came);
      cursors = c.open.ensures.cursors;
      kept = c.open.ensures.kept;
    }

pub returns-then-field-kind : goal.returns-then-field-kind
returns-then-field-kind g c =
    let s = c.args.self.now in
    let t = c.open.new.self in
    let at = c.in_ok-at.at in
    let on = stood (get_or s.cursors c.args.cursor None) _ at (sym c.position.ensures ∙ c.in_ok-at.was) in
    record {
      reached = no_field s c.args.cursor c.args.field c.args.link t at on c.open.ensures.kept c.in_ok-frame.frame
          c.in_ok-frame.ensures.came
          c.kind-kind.result c.kind-kind.ensures c.new.result (c.new.ensures ∙ ap (fault NoField 2) c.on_field-place.ensures) (le-ltb _ _ c.if-field-kind.true);
      cursors = c.open.ensures.cursors;
      kept = c.open.ensures.kept;
    }

pub returns-then-is_link-link : goal.returns-then-is_link-link
returns-then-is_link-link g c =
    let s = c.args.self.now in
    let t = c.open.new.self in
    let at = c.in_ok-at.at in
    let d = c.kind-kind.result in
    let on = stood (get_or s.cursors c.args.cursor None) _ at (sym c.position.ensures ∙ c.in_ok-at.was) in
    record {
      reached = wrong_kind s c.args.cursor c.args.field c.args.link t at on c.open.ensures.kept c.in_ok-frame.frame
          c.in_ok-frame.ensures.came
          d c.kind-kind.ensures c.new-then-is_link-link.result (c.new-then-is_link-link.ensures ∙ ap (fault WrongKind 2) c.on_field-place.ensures) (lt-ltb _ _ c.if-field-kind.false)
          (ap (asks c.args.link) (sym c.is_link.ensures) ∙ other_kind c.is_link.result c.args.link c.if-is_link-link.true);
      cursors = c.open.ensures.cursors;
      kept = c.open.ensures.kept;
    }

pub returns : goal.returns
returns g c =
    let s = c.args.self.now in
    let t = c.open.new.self in
    let at = c.in_ok-at.at in
    let d = c.kind-kind.result in
    let on = stood (get_or s.cursors c.args.cursor None) _ at (sym c.position.ensures ∙ c.in_ok-at.was) in
    record {
      reached = there_is s c.args.cursor c.args.field c.args.link t at on c.open.ensures.kept c.in_ok-frame.frame
          c.in_ok-frame.ensures.came
          d c.kind-kind.ensures c.if-field-kind.false
          (ap (asks c.args.link) (sym c.is_link.ensures) ∙ right_kind c.is_link.result c.args.link c.if-is_link-link.false);
      cursors = c.open.ensures.cursors;
      kept = c.open.ensures.kept;
    }

pub open-requires : goal.open-requires
open-requires g c =
    let s = c.args.self.now in
    cursor_page s c.args.cursor c.in_ok-at.at (stood (get_or s.cursors c.args.cursor None) _ c.in_ok-at.at (sym c.position.ensures ∙ c.in_ok-at.was))
