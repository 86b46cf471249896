use Rattle.std.proofs.Common.{◌≡◌, ℕ, List, is_some, count_by}
use Rattle.pageset.specs.Sets.{holds}
use Rattle.page.specs.Types.{types}
use Rattle.pool.specs.Leaving.{Went}
use Rattle.pool.specs.Pools.{Rest}
use Rattle.pool.proofs.pool.Pool.make_room.Given as goal

abbrev pub invariant-leaving : goal.invariant-leaving
invariant-leaving g l =
    Rest l.initial.self l.self
    × (g.V.Policy.frames l.self.policy ≡ g.V.Policy.frames l.initial.self.policy)
    × ((vs : List ℕ) × Went g.V.Policy.picks g.S.Store.pages (types l.initial.self.catalogue) l.initial.self.table.page_of (holds l.asked.words) l.initial.self.table.slots l.initial.self.count l.initial.self.frames l.initial.self.policy l.initial.self.store vs l.self.frames l.self.policy l.self.store)

abbrev pub decreases-leaving : goal.decreases-leaving
decreases-leaving g l = count_by is_some l.self.frames
