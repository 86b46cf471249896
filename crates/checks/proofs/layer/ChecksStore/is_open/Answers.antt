use Rattle.std.proofs.Common.{◌≡◌, ℕ, true, false, length, is_some, sym, ap, ◌∙◌}
use Rattle.store.proofs.Steps.{open_outside}
use Rattle.checks.specs.Layer.{check_page, checked}
use Rattle.checks.specs.Calls.{in_layer, ready_answer}
use Rattle.checks.proofs.Pages.{layer_is}
use Rattle.checks.proofs.Parts.{some_if, ready_is}
use Rattle.checks.proofs.layer.ChecksStore.is_open.Goals as goal

pub returns-then-not-in_layer-clause-value : goal.returns-then-not-in_layer-clause-value
returns-then-not-in_layer-clause-value g c =
    let ps = g.S.Store.pages c.args.self.now.lower in
    let n : ℕ = c.args.n in
    let out : in_layer (length ps) n ≡ false = ap (λ q. in_layer q n) (sym c.count-below.ensures.value) ∙ sym c.in_layer.ensures ∙ c.if-not-in_layer.true in
    sym (open_outside (checked ps) n (layer_is ps n ∙ out))

pub returns-clause-value : goal.returns-clause-value
returns-clause-value g c =
    let ps = g.S.Store.pages c.args.self.now.lower in
    let n : ℕ = c.args.n in
    let inside : in_layer (length ps) n ≡ true = ap (λ q. in_layer q n) (sym c.count-below.ensures.value) ∙ sym c.in_layer.ensures ∙ c.if-not-in_layer.false in
    let at = c.check_page.ensures ∙ ap (λ q. check_page q n) c.count-below.ensures.value in
    c.is_some.ensures
    ∙ ap is_some c.ready.ensures.value
    ∙ some_if (ready_answer g.S.Store.layer (g.S.Store.pages c.count-below.new.self) n c.check_page.result) _
    ∙ ap (λ w. ready_answer g.S.Store.layer w n c.check_page.result) c.count-below.ensures.same
    ∙ ap (ready_answer g.S.Store.layer ps n) at
    ∙ ready_is g.S.Store.layer ps n inside
