-- The graph that a pool and cursors stand for. Assumes nothing.
use Rattle.std.specs.Prelude.{◌≡◌, ℕ, true, List, [], Some, None, Option, slice_index_or}
use Rattle.page.specs.declared.descriptor.Descriptor.{Descriptor}
use Rattle.page.specs.declared.link.Position.{Position}
use Rattle.store.specs.Pages.{Page, page_at}
use Rattle.store.specs.Rules.{held_by}
use Rattle.store.specs.declared.Store.{Ghosts as StoreGhosts}
use Rattle.policy.specs.declared.Policy.{Ghosts as PolicyGhosts}
use Rattle.graph.specs.Graphs.{Graph}
use Rattle.graph.specs.Laws.{LawfulPage}
use Rattle.graph.specs.Steps.{starts_at}
use Rattle.pool.specs.Pools.{stood_for}
use Rattle.pool.specs.declared.pool.Pool.{Pool}

-- the store's pages with those in frames, in long pointers, over them, and the cursors
abbrev pub graph_at : {S V : Type 0} → {stores : StoreGhosts S} → {policies : PolicyGhosts V} → Pool S V stores policies → List (Option Position) → Graph
graph_at q cs = record { pages = stood_for q; cursors = cs }

-- the bytes of page n, none if it is unreadable
abbrev pub bytes_at : List Page → ℕ → List ℕ
bytes_at ps n = held_by (page_at ps n).content []

-- an object of a lawful page starts there: what the graph says of its objects, with the bytes computed, since a service's
-- own facts may hold no data
pub record OnObject (ts : List Descriptor) (ps : List Page) (at : Position) : Type 0 where
  pub lawful : LawfulPage ts ps at.page (bytes_at ps at.page)
  pub begins : starts_at ts (bytes_at ps at.page) at.cell ≡ true

-- every cursor that is not empty stands on an object
abbrev pub Standing : List Descriptor → Graph → Type 0
Standing ts g = (c : ℕ) (at : Position) → slice_index_or g.cursors c None ≡ Some at → OnObject ts g.pages at
