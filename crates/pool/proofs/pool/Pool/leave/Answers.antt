use Rattle.std.proofs.Common.{is_some, Option, sym, ap, ◌∙◌}
use Rattle.page.specs.Types.{types}
use Rattle.frame.specs.declared.frame.Frame.{Frame}
use Rattle.pool.proofs.Frames.{stuck, marks_at, covers_less, empty_set}
use Rattle.pool.proofs.Saves.{tied_less}
use Rattle.pool.proofs.pool.Pool.leave.Goals as goal

pub returns-in_err-frame-clause-none : goal.returns-in_err-frame-clause-none
returns-in_err-frame-clause-none g c _ =
    let s = c.args.self.now in
    stuck s.frames c.occupied-marks.result s.count (g.V.Policy.frames s.policy) c.victim-victim.result s.tied.policy c.victim-victim.ensures.answer
    (marks_at s.frames c.occupied-marks.result c.occupied-marks.ensures) s.spare
    (λ _. ap (λ (x : Option Frame). is_some x) (sym c.held.ensures ∙ c.in_err-frame.was))

pub invariant_of-self-2-clause-spare : goal.invariant_of-self-2-clause-spare
invariant_of-self-2-clause-spare g c k l = empty_set c.args.self.now.frames c.victim-victim.result k (c.args.self.now.spare k l)

pub invariant_of-self-2-clause-covered : goal.invariant_of-self-2-clause-covered
invariant_of-self-2-clause-covered g c = covers_less c.args.self.now.table.slot_of c.args.self.now.frames c.victim-victim.result c.args.self.now.covered

pub invariant_of-self-2-clause-tied : goal.invariant_of-self-2-clause-tied
invariant_of-self-2-clause-tied g c =
    let s = c.args.self.now in
    tied_less (types s.catalogue) s.table.slot_of s.table.page_of (g.S.Store.pages s.store) _ s.frames s.pages (g.V.Policy.frames s.policy) _ s.count c.victim-victim.result c.in_ok-frame.frame (sym c.held.ensures ∙ c.in_ok-frame.was) c.write_back.ensures c.victim-victim.ensures.keeps s.tied
