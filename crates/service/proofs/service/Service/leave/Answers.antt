use Rattle.std.proofs.Common.{None, Err, sym, refl, ap, ◌∙◌, subst}
use Rattle.std.proofs.lemmas.Result.{err_from_is_err_and}
use Rattle.fault.specs.Refusals.{Checked}
use Rattle.graph.specs.declared.calls.Call.{Call}
use Rattle.service.specs.Calls.{done, rests, Did}
use Rattle.service.specs.Serving.{setting_of, graph_of}
use Rattle.service.proofs.Opening.{kept_by}
use Rattle.service.proofs.Doing.{refuses}
use Rattle.service.proofs.Telling.{cursor_known}
use Rattle.service.proofs.Stepping.{leave_cursor, leave_ok, placed, stand_placed, covers_left}
use Rattle.service.proofs.service.Service.leave.Goals as goal

pub returns-in_err-check_cursor : goal.returns-in_err-check_cursor
returns-in_err-check_cursor g c =
    let s = c.args.self.now in
    let q = err_from_is_err_and c.from_residual.result c.from_residual.ensures.1 in
    let e = c.in_err-check_cursor.field-0.0 in
    subst (λ (r : Checked (Unit {0})). Did s s (Call.Leave c.args.cursor) (done r)) (sym (q.1 ∙ ap Err q.2))
    (refuses g.S.Store.laws.few g.S.Store.laws.whole s (Call.Leave c.args.cursor) s (kept_by s s refl refl refl) e refl (rests s.pool) (leave_cursor (setting_of s) (graph_of s) c.args.cursor e (sym c.check_cursor.ensures.value ∙ c.in_err-check_cursor.was)))

pub invariant_of-self-clause-stand : goal.invariant_of-self-clause-stand
invariant_of-self-clause-stand g c =
    let s = c.args.self.now in
    stand_placed g.S.Store.laws.few g.S.Store.laws.whole s s refl (kept_by s s refl refl refl) c.args.cursor None (Call.Leave c.args.cursor)
    (leave_ok (setting_of s) (graph_of s) c.args.cursor (cursor_known c.args.cursor c.in_ok-check_cursor.ensures.within))

pub invariant_of-self-clause-covered : goal.invariant_of-self-clause-covered
invariant_of-self-clause-covered g c =
    let s = c.args.self.now in
    covers_left s.pool.table.slot_of s.cursors c.args.cursor s.covered

pub returns : goal.returns
returns g c =
    let s = c.args.self.now in
    placed g.S.Store.laws.few g.S.Store.laws.whole s s refl (kept_by s s refl refl refl) c.args.cursor None (Call.Leave c.args.cursor)
    (leave_ok (setting_of s) (graph_of s) c.args.cursor (cursor_known c.args.cursor c.in_ok-check_cursor.ensures.within))
    _ refl refl (rests s.pool) refl
