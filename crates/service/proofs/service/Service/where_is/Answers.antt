use Rattle.std.proofs.Common.{ℕ, Ok, Err, sym, refl, ap, ◌∙◌, subst}
use Rattle.std.proofs.lemmas.Result.{err_from_is_err_and}
use Rattle.fault.specs.Refusals.{Checked}
use Rattle.graph.specs.declared.calls.Call.{Call}
use Rattle.service.specs.Calls.{place, rests, Did}
use Rattle.service.specs.Serving.{setting_of, graph_of}
use Rattle.service.proofs.Opening.{kept_by}
use Rattle.service.proofs.Doing.{refuses, grants}
use Rattle.service.proofs.Telling.{cursor_known}
use Rattle.graph.specs.declared.calls.Value.TheVariants.{At}
use Rattle.service.proofs.Stepping.{where_cursor, where_after}
use Rattle.service.proofs.service.Service.where_is.Goals as goal

pub returns-in_err-check_cursor : goal.returns-in_err-check_cursor
returns-in_err-check_cursor g c =
    let s = c.args.self.now in
    let q = err_from_is_err_and c.from_residual.result c.from_residual.ensures.1 in
    let e = c.in_err-check_cursor.field-0.0 in
    subst (λ (r : Checked (ℕ × ℕ)). Did s s (Call.Where c.args.cursor) (place r)) (sym (q.1 ∙ ap Err q.2))
    (refuses g.S.Store.laws.few g.S.Store.laws.whole s (Call.Where c.args.cursor) s (kept_by s s refl refl refl) e refl (rests s.pool) (where_cursor (setting_of s) (graph_of s) c.args.cursor e (sym c.check_cursor.ensures.value ∙ c.in_err-check_cursor.was)))

pub returns-in_err-at : goal.returns-in_err-at
returns-in_err-at g c =
    let s = c.args.self.now in
    let q = err_from_is_err_and c.from_residual-in_err-at.result c.from_residual-in_err-at.ensures.1 in
    let e = c.in_err-at.field-0.0 in
    subst (λ (r : Checked (ℕ × ℕ)). Did s s (Call.Where c.args.cursor) (place r)) (sym (q.1 ∙ ap Err q.2))
    (refuses g.S.Store.laws.few g.S.Store.laws.whole s (Call.Where c.args.cursor) s (kept_by s s refl refl refl) e refl (rests s.pool) (where_after (setting_of s) (graph_of s) c.args.cursor (Err e) (cursor_known c.args.cursor c.in_ok-check_cursor.ensures.within) (sym c.position.ensures ∙ c.in_err-at.was)))

pub returns : goal.returns
returns g c =
    let s = c.args.self.now in
    let at = c.in_ok-at.at in
    let G = graph_of s in
    grants g.S.Store.laws.few g.S.Store.laws.whole s (Call.Where c.args.cursor) s (kept_by s s refl refl refl) (At at) G (Ok (At at))
    (where_after (setting_of s) G c.args.cursor (Ok at) (cursor_known c.args.cursor c.in_ok-check_cursor.ensures.within) (sym c.position.ensures ∙ c.in_ok-at.was))
    refl (rests s.pool) refl
