use Rattle.std.proofs.Common.{true, set, Some, Err, sym, refl, ap, ◌∙◌, subst, rules}
use Rattle.std.proofs.lemmas.Result.{err_from_is_err_and}
use Rattle.fault.specs.Refusals.{Checked}
use Rattle.graph.specs.declared.calls.Call.{Call}
use Rattle.service.specs.Calls.{done, rests, Did}
use Rattle.service.specs.Serving.{setting_of, graph_of}
use Rattle.service.proofs.Opening.{kept_by}
use Rattle.service.proofs.Doing.{refuses}
use Rattle.service.proofs.Telling.{cursor_known}
use Rattle.fault.specs.declared.kinds.Cause.TheVariants.{AbsentLink}
use Rattle.fault.specs.declared.kinds.Place.{Place}
use Rattle.fault.specs.Faults.{fault, via}
use Rattle.page.specs.Form.{field_at}
use Rattle.service.proofs.Telling.{told_is}
use Rattle.page.specs.declared.link.Position.{Position}
use Rattle.page.specs.Types.{types}
use Rattle.store.specs.Pages.{is_page}
use Rattle.graph.specs.Graphs.{on_cursor}
use Rattle.pool.specs.Needs.{Covers}
use Rattle.service.specs.Inner.{Entered}
use Rattle.service.specs.Graphing.{graph_at, Standing}
use Rattle.std.specs.Prelude.{ok_or, Option}
use Rattle.service.proofs.Reach.{err_mapped, ok_mapped, there, absent_link}
use Rattle.service.proofs.Stepping.{follow_first, follow_second, no_field, absent, target_page, not_followed, follow_stood, follow_covered, follows}
use Rattle.service.proofs.service.Service.follow.Goals as goal

pub returns-in_err-check_cursor : goal.returns-in_err-check_cursor
returns-in_err-check_cursor g c =
    let s = c.args.self.now in
    let q = err_from_is_err_and c.from_residual.result c.from_residual.ensures.1 in
    let e = c.in_err-check_cursor.field-0.0 in
    subst (λ (r : Checked (Unit {0})). Did s s (Call.Follow c.args.cursor c.args.field c.args.second) (done r)) (sym (q.1 ∙ ap Err q.2))
    (refuses g.S.Store.laws.few g.S.Store.laws.whole s (Call.Follow c.args.cursor c.args.field c.args.second) s (kept_by s s refl refl refl) e refl (rests s.pool) (follow_first (setting_of s) (graph_of s) c.args.cursor c.args.field c.args.second e (sym c.check_cursor.ensures.value ∙ c.in_err-check_cursor.was)))

pub returns-in_err-check_cursor-2 : goal.returns-in_err-check_cursor-2
returns-in_err-check_cursor-2 g c =
    let s = c.args.self.now in
    let q = err_from_is_err_and c.from_residual-in_err-check_cursor-2.result c.from_residual-in_err-check_cursor-2.ensures.1 in
    let e = c.in_err-check_cursor-2.field-0.0 in
    subst (λ (r : Checked (Unit {0})). Did s s (Call.Follow c.args.cursor c.args.field c.args.second) (done r)) (sym (q.1 ∙ ap Err q.2))
    (refuses g.S.Store.laws.few g.S.Store.laws.whole s (Call.Follow c.args.cursor c.args.field c.args.second) s (kept_by s s refl refl refl) e refl (rests s.pool) (follow_second (setting_of s) (graph_of s) c.args.cursor c.args.field c.args.second e (cursor_known c.args.cursor c.in_ok-check_cursor.ensures.within) (sym c.check_cursor-2.ensures.value ∙ c.in_err-check_cursor-2.was)))

pub returns-in_err-spot : goal.returns-in_err-spot
returns-in_err-spot g c =
    let s = c.args.self.now in
    let u = c.spot.new.self in
    let q = err_from_is_err_and c.from_residual-in_err-spot.result c.from_residual-in_err-spot.ensures.1 in
    let e = c.in_err-spot.field-0.0 in
    let known = c.in_ok-check_cursor.ensures.within in
    let known' = c.in_ok-check_cursor-2.ensures.within in
    subst (λ (r : Checked (Unit {0})). Did s u (Call.Follow c.args.cursor c.args.field c.args.second) (done r)) (sym (q.1 ∙ ap Err q.2))
    (no_field g.S.Store.laws.few g.S.Store.laws.whole s u c.args.cursor c.args.field c.args.second c.spot.ensures.kept c.spot.ensures.cursors known known' e (c.in_err-spot.ensures.reached))

pub returns-in_err-at : goal.returns-in_err-at
returns-in_err-at g c =
    let s = c.args.self.now in
    let known = c.in_ok-check_cursor.ensures.within in
    let known' = c.in_ok-check_cursor-2.ensures.within in
    let u = c.spot.new.self in
    let o = c.in_ok-spot.spot in
    let w = c.in_ok-spot.ensures.reached in
    let x = c.stored-pointer.result in
    let eq = told_is g.S.Store.laws.few g.S.Store.laws.whole s u c.args.cursor c.args.field true c.spot.ensures.kept known o w (λ bs. field_at bs o.at.cell c.args.field) x c.stored-pointer.ensures in
    let q = err_from_is_err_and c.from_residual-in_err-at.result c.from_residual-in_err-at.ensures.1 in
    let e = c.in_err-at.field-0.0 in
    let gone = absent_link x c.new-absent.result e (sym (c.ok_or.ensures.value ∙ ap (λ (r : Option Position). ok_or r c.new-absent.result) c.named.ensures) ∙ c.in_err-at.was) in
    subst (λ (r : Checked (Unit {0})). Did s u (Call.Follow c.args.cursor c.args.field c.args.second) (done r)) (sym (q.1 ∙ ap Err q.2))
    (absent g.S.Store.laws.few g.S.Store.laws.whole s u c.args.cursor c.args.field c.args.second c.spot.ensures.kept c.spot.ensures.cursors known known' o w e (gone.1 ∙ c.new-absent.ensures ∙ ap (fault AbsentLink 2) c.on_field-link.ensures) (sym eq ∙ gone.0))

pub enter-requires : goal.enter-requires
enter-requires g c =
    let s = c.args.self.now in
    let known = c.in_ok-check_cursor.ensures.within in
    let known' = c.in_ok-check_cursor-2.ensures.within in
    let u = c.spot.new.self in
    let o = c.in_ok-spot.spot in
    let w = c.in_ok-spot.ensures.reached in
    let x = c.stored-pointer.result in
    let eq = told_is g.S.Store.laws.few g.S.Store.laws.whole s u c.args.cursor c.args.field true c.spot.ensures.kept known o w (λ bs. field_at bs o.at.cell c.args.field) x c.stored-pointer.ensures in
    let gotten = there x c.new-absent.result c.in_ok-at.at (sym (c.ok_or.ensures.value ∙ ap (λ (r : Option Position). ok_or r c.new-absent.result) c.named.ensures) ∙ c.in_ok-at.was) in
    let some = gotten.0 in
    ap (λ (p : Position). is_page (graph_of u).pages p.page) gotten.1
    ∙ target_page g.S.Store.laws.few g.S.Store.laws.whole s u c.args.cursor c.args.field c.args.second c.spot.ensures.kept c.spot.ensures.cursors known known' o w x eq some

pub returns-in_err-map_err : goal.returns-in_err-map_err
returns-in_err-map_err g c =
    let s = c.args.self.now in
    let known = c.in_ok-check_cursor.ensures.within in
    let known' = c.in_ok-check_cursor-2.ensures.within in
    let u = c.spot.new.self in
    let o = c.in_ok-spot.spot in
    let w = c.in_ok-spot.ensures.reached in
    let x = c.stored-pointer.result in
    let eq = told_is g.S.Store.laws.few g.S.Store.laws.whole s u c.args.cursor c.args.field true c.spot.ensures.kept known o w (λ bs. field_at bs o.at.cell c.args.field) x c.stored-pointer.ensures in
    let gotten = there x c.new-absent.result c.in_ok-at.at (sym (c.ok_or.ensures.value ∙ ap (λ (r : Option Position). ok_or r c.new-absent.result) c.named.ensures) ∙ c.in_ok-at.was) in
    let some = gotten.0 in
    let at = gotten.1 in
    let t = c.enter.new.self in
    let q = err_from_is_err_and c.from_residual-in_err-map_err.result c.from_residual-in_err-map_err.ensures.1 in
    let m = err_mapped c.enter.result c.map_err.result _ (via c.on_field-link.result) c.in_err-map_err.field-0.0 c.in_err-map_err.was c.map_err.ensures.cases (λ e y k. search rules) in
    subst (λ (r : Checked (Unit {0})). Did s t (Call.Follow c.args.cursor c.args.field c.args.second) (done r)) (sym (q.1 ∙ ap Err q.2))
    (not_followed g.S.Store.laws.few g.S.Store.laws.whole s u c.args.cursor c.args.field c.args.second c.spot.ensures.kept c.spot.ensures.cursors known known' o w x eq some t c.enter.ensures.kept c.enter.result (subst (λ (p : Position). Entered u t p c.enter.result) at c.enter.ensures.entered) m.0 c.in_err-map_err.field-0.0 m.1.0 (m.1.1 ∙ ap (λ (l : Place). via l m.0) c.on_field-link.ensures))

pub invariant_of-self-clause-stand : goal.invariant_of-self-clause-stand
invariant_of-self-clause-stand g c =
    let s = c.args.self.now in
    let known = c.in_ok-check_cursor.ensures.within in
    let known' = c.in_ok-check_cursor-2.ensures.within in
    let u = c.spot.new.self in
    let o = c.in_ok-spot.spot in
    let w = c.in_ok-spot.ensures.reached in
    let x = c.stored-pointer.result in
    let eq = told_is g.S.Store.laws.few g.S.Store.laws.whole s u c.args.cursor c.args.field true c.spot.ensures.kept known o w (λ bs. field_at bs o.at.cell c.args.field) x c.stored-pointer.ensures in
    let gotten = there x c.new-absent.result c.in_ok-at.at (sym (c.ok_or.ensures.value ∙ ap (λ (r : Option Position). ok_or r c.new-absent.result) c.named.ensures) ∙ c.in_ok-at.was) in
    let some = gotten.0 in
    let at = gotten.1 in
    let t = c.enter.new.self in
    let went = ok_mapped c.enter.result c.map_err.result _ tt c.in_ok-map_err.was c.map_err.ensures.cases in
    let entered = subst (λ (p : Position). Entered u t p c.enter.result) at c.enter.ensures.entered in
    subst (λ (p : Position). Standing (types t.pool.catalogue) (graph_at t.pool (set t.cursors c.args.second (Some p)))) (sym at)
    (follow_stood g.S.Store.laws.few g.S.Store.laws.whole s u c.args.cursor c.args.field c.args.second c.spot.ensures.kept c.spot.ensures.cursors known known' o w x eq some t c.enter.ensures.kept c.enter.result entered went)

pub invariant_of-self-clause-covered : goal.invariant_of-self-clause-covered
invariant_of-self-clause-covered g c =
    let s = c.args.self.now in
    let known = c.in_ok-check_cursor.ensures.within in
    let known' = c.in_ok-check_cursor-2.ensures.within in
    let u = c.spot.new.self in
    let o = c.in_ok-spot.spot in
    let w = c.in_ok-spot.ensures.reached in
    let x = c.stored-pointer.result in
    let eq = told_is g.S.Store.laws.few g.S.Store.laws.whole s u c.args.cursor c.args.field true c.spot.ensures.kept known o w (λ bs. field_at bs o.at.cell c.args.field) x c.stored-pointer.ensures in
    let gotten = there x c.new-absent.result c.in_ok-at.at (sym (c.ok_or.ensures.value ∙ ap (λ (r : Option Position). ok_or r c.new-absent.result) c.named.ensures) ∙ c.in_ok-at.was) in
    let some = gotten.0 in
    let at = gotten.1 in
    let t = c.enter.new.self in
    let went = ok_mapped c.enter.result c.map_err.result _ tt c.in_ok-map_err.was c.map_err.ensures.cases in
    let entered = subst (λ (p : Position). Entered u t p c.enter.result) at c.enter.ensures.entered in
    subst (λ (p : Position). Covers t.pool.table.slot_of (on_cursor (set t.cursors c.args.second (Some p)))) (sym at)
    (follow_covered g.S.Store.laws.few g.S.Store.laws.whole s u c.args.cursor c.args.field c.args.second c.spot.ensures.kept c.spot.ensures.cursors known known' o w x eq some t c.enter.ensures.kept c.enter.result entered went)

pub returns : goal.returns
returns g c =
    let s = c.args.self.now in
    let known = c.in_ok-check_cursor.ensures.within in
    let known' = c.in_ok-check_cursor-2.ensures.within in
    let u = c.spot.new.self in
    let o = c.in_ok-spot.spot in
    let w = c.in_ok-spot.ensures.reached in
    let x = c.stored-pointer.result in
    let eq = told_is g.S.Store.laws.few g.S.Store.laws.whole s u c.args.cursor c.args.field true c.spot.ensures.kept known o w (λ bs. field_at bs o.at.cell c.args.field) x c.stored-pointer.ensures in
    let gotten = there x c.new-absent.result c.in_ok-at.at (sym (c.ok_or.ensures.value ∙ ap (λ (r : Option Position). ok_or r c.new-absent.result) c.named.ensures) ∙ c.in_ok-at.was) in
    let some = gotten.0 in
    let at = gotten.1 in
    let t = c.enter.new.self in
    let went = ok_mapped c.enter.result c.map_err.result _ tt c.in_ok-map_err.was c.map_err.ensures.cases in
    let entered = subst (λ (p : Position). Entered u t p c.enter.result) at c.enter.ensures.entered in
    follows g.S.Store.laws.few g.S.Store.laws.whole s u c.args.cursor c.args.field c.args.second c.spot.ensures.kept c.spot.ensures.cursors known known' o w x eq some t c.enter.ensures.kept c.enter.result entered went _ refl (ap (λ (p : Position). set t.cursors c.args.second (Some p)) at)
