use Rattle.std.proofs.Common.{◌≡◌, ℕ, ◌&&◌, take}
use Rattle.pageset.specs.Sets.{holds}
use Rattle.frame.specs.Links.{is_page}
use Rattle.graph.specs.Graphs.{on_cursor}
use Rattle.service.proofs.service.Service.standing.Given as goal

abbrev pub invariant-loop-held : goal.invariant-loop-held
invariant-loop-held g l = (m : ℕ) → holds l.pages.words m ≡ (on_cursor (take l.held-index l.self.cursors) m && is_page m)
