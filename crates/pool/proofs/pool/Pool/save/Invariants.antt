use Rattle.std.proofs.Common.{◌≡◌, ℕ, ◌<◌, ◌≤◌, false, length, get_or, is_some, None}
use Rattle.page.specs.Types.{types}
use Rattle.frame.specs.declared.frame.Frame.{Frame}
use Rattle.stands.specs.Frames.{HasAt, stands_for}
use Rattle.pool.specs.Meaning.{Fine}
use Rattle.pool.specs.Needs.{needed, Covers}
use Rattle.pool.specs.Pools.{stood_for}
use Rattle.pool.proofs.Saves.{Cleaning}
use Rattle.pool.proofs.pool.Pool.save.Given as goal

abbrev pub invariant-loop-held : goal.invariant-loop-held
invariant-loop-held g l =
    let e = l.fn.self in
    let fs = l.held-items in
    let ps = g.S.Store.pages l.self.1.0 in
    (l.self.1.1.0 ≡ e.policy)
    × (l.self.1.1.1.0 ≡ e.catalogue)
    × (l.self.1.1.1.1.0 ≡ e.table)
    × (l.self.1.1.1.1.1.1.0 ≡ e.count)
    × (l.self.1.1.1.1.1.1.1.0 ≡ e.pages)
    × Fine (types e.catalogue) e.table.slot_of e.table.page_of ps fs e.pages (g.V.Policy.frames e.policy) e.count
    × (stands_for (types e.catalogue) e.table.page_of ps fs ≡ stood_for e)
    × ((j : ℕ) → j < l.held-index → (f : Frame) → HasAt fs j f → f.changed ≡ false)
    × ((k : ℕ) → e.count ≤ k → is_some (get_or fs k None) ≡ false)
    × Covers e.table.slot_of (needed fs)
    × (length fs ≡ 16)
    × Cleaning e.frames fs l.held-index
