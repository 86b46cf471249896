use Rattle.std.proofs.Common.{List, length, sym, ap, ◌∙◌}
use Rattle.store.specs.Pages.{Page}
use Rattle.page.specs.Types.{types}
use Rattle.pool.proofs.Starts.{starts_fine, starts_stands}
use Rattle.pool.proofs.pool.Pool.new.Goals as goal

pub invariant_of-result-clause-tied : goal.invariant_of-result-clause-tied
invariant_of-result-clause-tied g c =
    let t = c.new.result in
    starts_fine (types c.args.catalogue) t.slot_of t.page_of (g.S.Store.pages c.count-pages.new.self) c.count-pages.result _ _ t.agree (c.count-pages.ensures.value ∙ ap (λ (x : List Page). length x) (sym c.count-pages.ensures.same)) c.open.ensures.given

pub returns-clause-stands : goal.returns-clause-stands
returns-clause-stands g c =
    let t = c.new.result in
    starts_stands (types c.args.catalogue) t.slot_of t.page_of (g.S.Store.pages c.count-pages.new.self) t.agree ∙ c.count-pages.ensures.same
