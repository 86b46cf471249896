use Rattle.std.proofs.Common.{sym, refl, ◌∙◌}
use Rattle.pageset.specs.Sets.{holds}
use Rattle.address.specs.Pairing.{owned}
use Rattle.page.specs.Types.{types}
use Rattle.pool.specs.Courses.{resident}
use Rattle.pool.proofs.Finds.{found_at, found_none}
use Rattle.pool.proofs.Finds.{resident as resident_opened}
use Rattle.pool.proofs.pool.Pool.open.Goals as goal

pub returns-in-Some-clause-opened : goal.returns-in-Some-clause-opened
returns-in-Some-clause-opened g c page stand =
    let s = c.args.self.now in
    let t = s.table in
    let w = found_at s.frames c.args.n c.in-Some.held (sym c.find.ensures ∙ c.in-Some.is) in
    resident_opened (types s.catalogue) t.slots (owned t.page_of) t.slot_of t.page_of (g.S.Store.pages s.store) s.frames s.pages (g.V.Policy.frames s.policy) s.count (holds c.args.standing.now.words) c.args.n c.in-Some.held w.0
    s.tied (record { agree = t.agree; within = t.within; counted = t.counted; sized = t.sized }) s.covered stand w.1.0 w.1.1

pub returns-in-Some-clause-course : goal.returns-in-Some-clause-course
returns-in-Some-clause-course g c page =
    let w = found_at c.args.self.now.frames c.args.n c.in-Some.held (sym c.find.ensures ∙ c.in-Some.is) in
    resident c.in-Some.held w.0 w.1.0 w.1.1 (record { table = refl; frames = refl; store = refl }) c.touch.ensures.course

pub bring-requires : goal.bring-requires
bring-requires g c = found_none c.args.self.now.frames c.args.n (sym c.find.ensures ∙ c.in_default.is)
