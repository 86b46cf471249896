use Rattle.std.proofs.Common.{◌≡◌, get_or, rules, Option, Some, None, MatchOption, sym, ◌∙◌}
use Rattle.pageset.specs.Sets.{bit}
use Rattle.pageset.proofs.Members.{holds_at, holds_nowhere}
use Rattle.pageset.proofs.PageSet.has.Goals as goal

both : {A N M G : Type 0} {S T : A → Type 0} → (o : Option A) → MatchOption o N S → MatchOption o M T → (N → M → G) → ((x : A) → S x → T x → G) → G
both None s t f g = f s t
both (Some x) s t f g = g x s t

pub returns : goal.returns
unfolding bit
returns c =
    let t = c.args.self.now in
    both c.place.result c.place.ensures c.is_some_and.ensures
    (λ h e. e ∙ sym (holds_nowhere t.words c.args.page t.sized h))
    (λ p h e.
    let f : c.is_some_and.result ≡ bit (get_or t.words p.0 0) p.1 = search rules in
    f ∙ rw (h.2, h.3) (sym (holds_at t.words c.args.page h.0)))
