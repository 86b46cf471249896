-- Pools, and what their calls leave. Assumes nothing.
use Rattle.std.specs.Prelude.{◌≡◌, ℕ, Bool, true, List}
use Rattle.fault.specs.Refusals.{Checked}
use Rattle.page.specs.Form.{type_at}
use Rattle.page.specs.Types.{types}
use Rattle.page.specs.declared.descriptor.Descriptor.{Descriptor}
use Rattle.frame.specs.declared.frame.Frame.{Frame}
use Rattle.store.specs.Pages.{Page}
use Rattle.store.specs.declared.Store.{Ghosts as StoreGhosts}
use Rattle.policy.specs.declared.Policy.{Ghosts as PolicyGhosts}
use Rattle.stands.specs.Frames.{HasAt, long_bytes, stands_for}
use Rattle.graph.specs.Steps.{starts_at}
use Rattle.pool.specs.Opening.{Opened}
use Rattle.pool.specs.Saving.{Saved}
use Rattle.pool.specs.declared.pool.Pool.{Pool}

module _ {S V : Type 0} {stores : StoreGhosts S} {policies : PolicyGhosts V} where
  -- the pages that a pool stands for
  abbrev pub stood_for : Pool S V stores policies → List Page
  stood_for q = stands_for (types q.catalogue) q.table.page_of (stores.pages q.store) q.frames

  -- the bytes of a frame's page, in long pointers
  abbrev pub long_of : Pool S V stores policies → Frame → List ℕ
  long_of q f = long_bytes (types q.catalogue) q.table.page_of f

  -- frame k has f, and an object starts at the cell of its page
  pub record StartsIn (q : Pool S V stores policies) (k : ℕ) (f : Frame) (cell : ℕ) : Type 0 where
    pub has : HasAt q.frames k f
    pub begins : starts_at (types q.catalogue) (long_of q f) cell ≡ true

  -- the type of the object at the cell of a frame's page
  abbrev pub kind_in : Pool S V stores policies → Frame → ℕ → Descriptor
  kind_in q f cell = type_at (types q.catalogue) (long_of q f) cell

  -- table, catalogue and the numbers of frames and pages are as they were
  pub record Rest (q q' : Pool S V stores policies) : Type 0 where
    pub table : q'.table ≡ q.table
    pub catalogue : q'.catalogue ≡ q.catalogue
    pub count : q'.count ≡ q.count
    pub pages : q'.pages ≡ q.pages

  -- what is fixed when a pool opens is as it was
  pub record Fixed (q q' : Pool S V stores policies) : Type 0 where
    pub policy : policies.frames q'.policy ≡ policies.frames q.policy
    pub slots : q'.table.slots ≡ q.table.slots
    pub catalogue : q'.catalogue ≡ q.catalogue
    pub count : q'.count ≡ q.count
    pub pages : q'.pages ≡ q.pages

  -- opening page n, beside the pages of a set, led from the pool q to the pool q' and answered r
  abbrev pub OpenedTo : (ℕ → Bool) → ℕ → Pool S V stores policies → Pool S V stores policies → Checked ℕ → Type 0
  OpenedTo standing n q q' r = Opened (types q.catalogue) q.table.slots q.table.slot_of q.table.page_of (stores.pages q.store) q.frames q'.table.slot_of q'.table.page_of (stores.pages q'.store) q'.frames q.pages (policies.frames q.policy) q.count standing n r

  -- saving led from the pool q to the pool q'
  abbrev pub SavedTo : Pool S V stores policies → Pool S V stores policies → Type 0
  SavedTo q q' = Saved (types q.catalogue) q.table.slot_of q.table.page_of (stores.pages q.store) q.frames (stores.pages q'.store) q'.frames q.pages (policies.frames q.policy) q.count
