use Rattle.std.proofs.Common.{◌≡◌, ℕ, true, Ok, Err, Option, sym, refl, ap, ◌∙◌, subst, rules}
use Rattle.std.proofs.lemmas.Result.{err_from_is_err_and}
use Rattle.fault.specs.Refusals.{Checked}
use Rattle.page.specs.Form.{field_at}
use Rattle.graph.specs.declared.calls.Call.{Call}
use Rattle.graph.specs.Openings as openings
use Rattle.graph.specs.Steps as steps
use Rattle.graph.specs.Steps.{held, named}
use Rattle.graph.specs.declared.calls.Value.TheVariants.{Names}
use Rattle.service.specs.Calls.{names, link_of, rests, Did}
use Rattle.service.specs.Inner.{spot_of}
use Rattle.service.specs.Serving.{setting_of, graph_of}
use Rattle.service.proofs.Opening.{kept_by}
use Rattle.service.proofs.Reach.{pair_of}
use Rattle.service.proofs.Doing.{refuses}
use Rattle.service.proofs.Telling.{cursor_known, told_field, told_ok, target_cursor, told_is, field_is, refused_field, told_field_of}
use Rattle.service.proofs.service.Service.target.Goals as goal

pub returns-in_err-check_cursor : goal.returns-in_err-check_cursor
returns-in_err-check_cursor g c =
    let s = c.args.self.now in
    let q = err_from_is_err_and c.from_residual.result c.from_residual.ensures.1 in
    let e = c.in_err-check_cursor.field-0.0 in
    subst (λ (r : Checked (Option (ℕ × ℕ))). Did s s (Call.Target c.args.cursor c.args.field) (names r)) (sym (q.1 ∙ ap Err q.2))
    (refuses g.S.Store.laws.few g.S.Store.laws.whole s (Call.Target c.args.cursor c.args.field) s (kept_by s s refl refl refl) e refl (rests s.pool)
    (target_cursor (setting_of s) (graph_of s) c.args.cursor c.args.field e (sym c.check_cursor.ensures.value ∙ c.in_err-check_cursor.was)))

pub returns-in_err-spot : goal.returns-in_err-spot
returns-in_err-spot g c =
    let s = c.args.self.now in
    let t = c.spot.new.self in
    let q = err_from_is_err_and c.from_residual-in_err-spot.result c.from_residual-in_err-spot.ensures.1 in
    let e = c.in_err-spot.field-0.0 in
    let known = c.in_ok-check_cursor.ensures.within in
    let G = graph_of s in
    subst (λ (r : Checked (Option (ℕ × ℕ))). Did s t (Call.Target c.args.cursor c.args.field) (names r)) (sym (q.1 ∙ ap Err q.2))
    (refused_field g.S.Store.laws.few g.S.Store.laws.whole s t c.args.cursor c.args.field true c.spot.ensures.kept known (Call.Target c.args.cursor c.args.field) (openings.target c.args.cursor c.args.field) e (c.in_err-spot.ensures.reached)
    (told_field (setting_of s) G (λ y. Names y) (λ o. named (held o)) (steps.cursor c.args.cursor) (steps.link_field (setting_of s) G c.args.cursor c.args.field) e (cursor_known c.args.cursor known)))

pub returns : goal.returns
returns g c =
    let s = c.args.self.now in
    let t = c.spot.new.self in
    let known = c.in_ok-check_cursor.ensures.within in
    let G = graph_of s in
    let o = c.in_ok-spot.spot in
    let w = c.in_ok-spot.ensures.reached in
    let is = field_is g.S.Store.laws.few g.S.Store.laws.whole s t c.args.cursor c.args.field true c.spot.ensures.kept known o w in
    let x = c.stored-pointer.result in
    let eq : x ≡ held (spot_of t c.args.field o) = told_is g.S.Store.laws.few g.S.Store.laws.whole s t c.args.cursor c.args.field true c.spot.ensures.kept known o w (λ bs. field_at bs o.at.cell c.args.field) x c.stored-pointer.ensures in
    told_field_of g.S.Store.laws.few g.S.Store.laws.whole s t c.args.cursor c.args.field true c.spot.ensures.kept known (Call.Target c.args.cursor c.args.field) (openings.target c.args.cursor c.args.field) (Ok o) w (Names (named (held (spot_of t c.args.field o)))) (Ok (Names (link_of c.map.result)))
    (told_ok (setting_of s) G (λ y. Names y) (λ o. named (held o)) (steps.cursor c.args.cursor) (steps.link_field (setting_of s) G c.args.cursor c.args.field) (spot_of t c.args.field o) (cursor_known c.args.cursor known) is)
    (ap (λ y. Ok (Names y)) (pair_of c.named.result c.map.result _ c.map.ensures.cases (λ at p k. search rules) ∙ c.named.ensures ∙ ap named eq))
