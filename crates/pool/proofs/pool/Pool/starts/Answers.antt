use Rattle.std.proofs.Common.{◌≡◌, false, get_or, ◌∙◌, rules}
use Rattle.std.proofs.lemmas.Option.{MatchOption-at_some}
use Rattle.page.specs.Types.{types}
use Rattle.page.specs.Walks.{start_cells}
use Rattle.stands.proofs.Courses.{same_starts}
use Rattle.pool.proofs.pool.Pool.starts.Goals as goal

pub returns : goal.returns
returns g c f h =
    let s = c.args.self.now in
    let z = MatchOption-at_some _ _ f (c.held.ensures ∙ h) c.is_some_and.ensures in
    let e : c.is_some_and.result ≡ get_or (start_cells (types s.catalogue) f.cells) c.args.cell false = search rules in
    e ∙ same_starts (types s.catalogue) s.table.slot_of s.table.page_of f c.args.cell (s.tied.sound.frames c.args.k f h) s.table.within.1.1.0 f.small
