use Rattle.std.proofs.Common.{◌≡◌, ◌/◌, ◌&&◌, ◌||◌, sym, ap, ◌∙◌, arith}
use Rattle.page.specs.Walks.{leads}
use Rattle.page.specs.declared.link.Position.{Position}
use Rattle.pageset.specs.Sets.{holds}
use Rattle.frame.specs.Links.{is_page}
use Rattle.frame.proofs.Sets.{put_page}
use Rattle.frame.proofs.pages.add_target.Goals as goal

pub returns-then-page-le-LAST_PAGE : goal.returns-then-page-le-LAST_PAGE
returns-then-page-le-LAST_PAGE c n =
    let v = c.args.pages.now.words in
    let w = c.add.new.self.words in
    let x = c.args.number in
    let e : c.from-page.result.page ≡ x / 64 = ap (λ (p : Position). p.page) c.from-page.ensures in
    put_page v w x n (omega (arith, e)) (λ p q. ap (holds w) (sym e) ∙ c.add.ensures.added (omega (arith, e)) (omega (arith, e))) (λ m d. c.add.ensures.others m (λ i. d (i ∙ e)))
    ∙ ap (λ b. holds v n || ((b && leads n x) && is_page n)) (sym c.if-link.true)
