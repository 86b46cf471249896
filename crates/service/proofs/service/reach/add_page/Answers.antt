use Rattle.std.proofs.Common.{◌∙◌}
use Rattle.pageset.specs.Sets.{holds}
use Rattle.service.proofs.Cursors.{put_page, on_some}
use Rattle.service.proofs.service.reach.add_page.Goals as goal

pub returns : goal.returns
returns c m =
    let v = c.args.pages.now.words in
    let n = c.in-Some.at.page in
    put_page v c.add.new.self.words n m c.if-at-gt-MOST_PAGES.false c.add.ensures.added c.add.ensures.others
    ∙ on_some c.args.held c.in-Some.at m (holds v m) c.in-Some.is
