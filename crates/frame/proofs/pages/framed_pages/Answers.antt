use Rattle.std.proofs.Common.{◌≡◌, false, ◌&&◌, ◌||◌, inl, inr, sym, ap, ◌∙◌, ⊎_elim, rules}
use Rattle.page.specs.Types.{types}
use Rattle.page.specs.Walks.{any_leads, link_cells}
use Rattle.pageset.specs.Sets.{holds}
use Rattle.frame.specs.Links.{is_page, map_where, pointer}
use Rattle.frame.proofs.Swizzles.{places_kept, length_where}
use Rattle.frame.proofs.Walks.{any_end, or_nothing}
use Rattle.frame.proofs.pages.framed_pages.Goals as goal

pub loop-link-init : goal.loop-link-init
loop-link-init c n =
    let f = pointer c.args.table.now.page_of in
    let ts = types c.args.catalogue.now in
    let xs = c.args.cells.now in
    let ls = c.link_cells-links.result in
    let ls' = c.into_iter-link-iterator.result.a.rest.now in
    let xs' = c.into_iter-link-iterator.result.b.rest.now in
    let a : ls' ≡ ls = search rules in
    let b : xs' ≡ xs = search rules in
    ap (λ b. b || (any_leads n ls' (map_where f ls' xs') && is_page n)) (c.new-pages.ensures n)
    ∙ ap (λ l. any_leads n l (map_where f l xs') && is_page n) (a ∙ c.link_cells-links.ensures)
    ∙ ap (λ x. any_leads n (link_cells ts xs) (map_where f (link_cells ts xs) x) && is_page n) b
    ∙ ap (λ l. any_leads n l (map_where f (link_cells ts xs) xs) && is_page n) (sym (places_kept ts f xs).0)

pub returns : goal.returns
returns c n =
    let bs = c.loop-link.link-iterator.a.rest.now in
    let xs = c.loop-link.link-iterator.b.rest.now in
    let f = pointer c.args.table.now.page_of in
    let ys = map_where f bs xs in
    let v = c.loop-link.pages.words in
    let none : any_leads n bs ys ≡ false = ⊎_elim (λ h. any_end n bs ys (inl h.1.0)) (λ h. any_end n bs ys (inr (length_where f bs xs ∙ h.1.0))) c.in-None.ensures.steps in
    or_nothing (holds v n) ∙ ap (λ b. holds v n || (b && is_page n)) (sym none) ∙ c.loop-link.invariant n
