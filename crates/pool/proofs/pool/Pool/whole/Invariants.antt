use Rattle.std.proofs.Common.{◌≡◌, ℕ, ◌||◌, take}
use Rattle.pageset.specs.Sets.{holds}
use Rattle.pool.specs.Needs.{needed}
use Rattle.pool.proofs.pool.Pool.whole.Given as goal

abbrev pub invariant-loop-held : goal.invariant-loop-held
invariant-loop-held g l = (n : ℕ) → holds l.pages.words n ≡ (holds l.asked.words n || needed (take l.held-index l.self.frames) n)
