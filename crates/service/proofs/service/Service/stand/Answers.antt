use Rattle.std.proofs.Common.{Ok, Err, sym, refl, ap, ◌∙◌, subst}
use Rattle.std.proofs.lemmas.Result.{err_from_is_err_and}
use Rattle.fault.specs.Refusals.{Checked}
use Rattle.graph.specs.declared.calls.Call.{Call}
use Rattle.service.specs.Calls.{done, rests, Did}
use Rattle.service.specs.Serving.{setting_of, graph_of}
use Rattle.service.proofs.Opening.{kept_by}
use Rattle.service.proofs.Doing.{refuses}
use Rattle.service.proofs.Telling.{cursor_known}
use Rattle.service.proofs.Reach.{else_yes}
use Rattle.service.proofs.Stepping.{stand_cursor, stand_page, not_stood, stands, stand_stood, stand_covered}
use Rattle.service.proofs.service.Service.stand.Goals as goal

pub returns-in_err-check_cursor : goal.returns-in_err-check_cursor
returns-in_err-check_cursor g c =
    let s = c.args.self.now in
    let q = err_from_is_err_and c.from_residual.result c.from_residual.ensures.1 in
    let e = c.in_err-check_cursor.field-0.0 in
    subst (λ (r : Checked (Unit {0})). Did s s (Call.Stand c.args.cursor c.args.page c.args.cell) (done r)) (sym (q.1 ∙ ap Err q.2))
    (refuses g.S.Store.laws.few g.S.Store.laws.whole s (Call.Stand c.args.cursor c.args.page c.args.cell) s (kept_by s s refl refl refl) e refl (rests s.pool) (stand_cursor (setting_of s) (graph_of s) c.args.cursor c.args.page c.args.cell e (sym c.check_cursor.ensures.value ∙ c.in_err-check_cursor.was)))

pub returns-in_err-check_page : goal.returns-in_err-check_page
returns-in_err-check_page g c =
    let s = c.args.self.now in
    let q = err_from_is_err_and c.from_residual-in_err-check_page.result c.from_residual-in_err-check_page.ensures.1 in
    let e = c.in_err-check_page.field-0.0 in
    subst (λ (r : Checked (Unit {0})). Did s s (Call.Stand c.args.cursor c.args.page c.args.cell) (done r)) (sym (q.1 ∙ ap Err q.2))
    (refuses g.S.Store.laws.few g.S.Store.laws.whole s (Call.Stand c.args.cursor c.args.page c.args.cell) s (kept_by s s refl refl refl) e refl (rests s.pool) (stand_page (setting_of s) (graph_of s) c.args.cursor c.args.page c.args.cell e (cursor_known c.args.cursor c.in_ok-check_cursor.ensures.within) (sym c.check_page.ensures ∙ c.in_err-check_page.was)))

pub returns-in_err-enter : goal.returns-in_err-enter
returns-in_err-enter g c =
    let s = c.args.self.now in
    let t = c.enter.new.self in
    let q = err_from_is_err_and c.from_residual-in_err-enter.result c.from_residual-in_err-enter.ensures.1 in
    let e = c.in_err-enter.field-0.0 in
    let page = sym c.check_page.ensures ∙ c.in_ok-check_page.was in
    let there = else_yes _ _ page in
    subst (λ (r : Checked (Unit {0})). Did s t (Call.Stand c.args.cursor c.args.page c.args.cell) (done r)) (sym (q.1 ∙ ap Err q.2))
    (not_stood g.S.Store.laws.few g.S.Store.laws.whole s t c.args.cursor c.args.page c.args.cell c.first_cell.result c.first_cell.ensures c.enter.ensures.kept c.in_ok-check_cursor.ensures.within page there (Err e) (c.in_err-enter.ensures.entered) e refl)

pub invariant_of-self-clause-stand : goal.invariant_of-self-clause-stand
invariant_of-self-clause-stand g c =
    let page = sym c.check_page.ensures ∙ c.in_ok-check_page.was in
    stand_stood g.S.Store.laws.few g.S.Store.laws.whole c.args.self.now c.enter.new.self c.args.cursor c.args.page c.args.cell c.first_cell.result c.first_cell.ensures c.enter.ensures.kept c.in_ok-check_cursor.ensures.within page (else_yes _ _ page) (Ok tt) c.in_ok-enter.ensures.entered refl

pub invariant_of-self-clause-covered : goal.invariant_of-self-clause-covered
invariant_of-self-clause-covered g c =
    let page = sym c.check_page.ensures ∙ c.in_ok-check_page.was in
    stand_covered g.S.Store.laws.few g.S.Store.laws.whole c.args.self.now c.enter.new.self c.args.cursor c.args.page c.args.cell c.first_cell.result c.first_cell.ensures c.enter.ensures.kept c.in_ok-check_cursor.ensures.within page (else_yes _ _ page) (Ok tt) c.in_ok-enter.ensures.entered refl

pub returns : goal.returns
returns g c =
    let s = c.args.self.now in
    let t = c.enter.new.self in
    let page = sym c.check_page.ensures ∙ c.in_ok-check_page.was in
    let there = else_yes _ _ page in
    stands g.S.Store.laws.few g.S.Store.laws.whole s t c.args.cursor c.args.page c.args.cell c.first_cell.result c.first_cell.ensures c.enter.ensures.kept c.in_ok-check_cursor.ensures.within page there (Ok tt) (c.in_ok-enter.ensures.entered) refl _ refl refl
