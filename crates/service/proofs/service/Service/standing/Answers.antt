use Rattle.std.proofs.Common.{◌<◌, ◌&&◌, ◌||◌, length, None, Option, sym, ap, ◌∙◌, arith}
use Rattle.std.proofs.lemmas.List.{get_or_default}
use Rattle.pageset.specs.Sets.{holds}
use Rattle.page.specs.declared.link.Position.{Position}
use Rattle.frame.specs.Links.{is_page}
use Rattle.service.specs.Inner.{on}
use Rattle.service.proofs.Cursors.{on_more}
use Rattle.service.proofs.service.Service.standing.Goals as goal

pub loop-held-preserved : goal.loop-held-preserved
loop-held-preserved g c m =
    let s = c.args.self.now in
    let k = c.loop-held.held-index in
    let h : k < length s.cursors = omega arith in
    let v = c.loop-held.pages.words in
    on_more v c.add_page.new.pages.words m s.cursors k h (c.loop-held.invariant m)
    (c.add_page.ensures m ∙ ap (λ (x : Option Position). holds v m || (on x m && is_page m)) (sym (get_or_default s.cursors k None _ h)))
