use Rattle.std.proofs.Common.{◌≡◌, false, ◌&&◌, ◌||◌, inl, inr, sym, ap, ◌∙◌, ⊎_elim}
use Rattle.page.specs.Walks.{any_leads}
use Rattle.pageset.specs.Sets.{holds}
use Rattle.frame.specs.Links.{is_page}
use Rattle.frame.proofs.Walks.{any_end, or_nothing}
use Rattle.frame.proofs.pages.linked_pages.Goals as goal

pub returns : goal.returns
returns c n =
    let bs = c.loop-link.link-iterator.a.rest.now in
    let xs = c.loop-link.link-iterator.b.rest.now in
    let v = c.loop-link.pages.words in
    let none : any_leads n bs xs ≡ false = ⊎_elim (λ h. any_end n bs xs (inl h.1.0)) (λ h. any_end n bs xs (inr h.1.0)) c.in-None.ensures.steps in
    or_nothing (holds v n) ∙ ap (λ b. holds v n || (b && is_page n)) (sym none) ∙ c.loop-link.invariant n
