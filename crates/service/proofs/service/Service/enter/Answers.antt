use Rattle.std.proofs.Common.{Err, sym, ap, ◌∙◌, subst}
use Rattle.std.proofs.lemmas.Result.{err_from_is_err_and}
use Rattle.fault.specs.Refusals.{Checked}
use Rattle.service.specs.Inner.{Entered}
use Rattle.fault.specs.declared.kinds.Cause.TheVariants.{NoObject}
use Rattle.fault.specs.Faults.{fault}
use Rattle.service.proofs.Stepping.{not_entered, no_object, has_object}
use Rattle.service.proofs.service.Service.enter.Goals as goal

pub returns-in_err-frame : goal.returns-in_err-frame
returns-in_err-frame g c =
    let s = c.args.self.now in
    let t = c.open.new.self in
    let q = err_from_is_err_and c.from_residual.result c.from_residual.ensures.1 in
    let e = c.in_err-frame.field-0.0 in
    record {
      entered = subst (λ (r : Checked (Unit {0})). Entered s t c.args.at r) (sym (q.1 ∙ ap Err q.2)) (not_entered g.S.Store.laws.few s t c.args.at c.open.ensures.kept e (c.in_err-frame.ensures.came));
      cursors = c.open.ensures.cursors;
      kept = c.open.ensures.kept;
    }

pub returns-then-not-starts : goal.returns-then-not-starts
returns-then-not-starts g c =
    let s = c.args.self.now in
    let t = c.open.new.self in
    record {
      entered = no_object g.S.Store.laws.few s t c.args.at c.open.ensures.kept c.in_ok-frame.frame (c.in_ok-frame.ensures.came) c.starts.result c.starts.ensures c.new.result (c.new.ensures ∙ ap (fault NoObject 2) c.on_cell-place.ensures) c.if-not-starts.true;
      cursors = c.open.ensures.cursors;
      kept = c.open.ensures.kept;
    }

pub returns : goal.returns
returns g c =
    let s = c.args.self.now in
    let t = c.open.new.self in
    record {
      entered = has_object g.S.Store.laws.few s t c.args.at c.open.ensures.kept c.in_ok-frame.frame (c.in_ok-frame.ensures.came) c.starts.result c.starts.ensures c.if-not-starts.false;
      cursors = c.open.ensures.cursors;
      kept = c.open.ensures.kept;
    }
