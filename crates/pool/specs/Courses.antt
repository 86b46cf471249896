-- How a pool comes to hold a page. Assumes nothing.
use Rattle.std.specs.Prelude.{◌≡◌, ℕ, ◌<◌, ◌≤◌, Bool, List, Ok, Err, Option}
use Rattle.fault.specs.declared.kinds.Fault.{Fault}
use Rattle.fault.specs.Refusals.{Checked}
use Rattle.pageset.specs.declared.PageSet.{PageSet}
use Rattle.address.specs.declared.table.AddressTable.{AddressTable}
use Rattle.page.specs.Types.{types}
use Rattle.page.specs.Walks.{cells_of}
use Rattle.page.specs.declared.catalogue.ClosedCatalogue.{ClosedCatalogue}
use Rattle.frame.specs.declared.frame.Frame.{Frame}
use Rattle.store.specs.Pages.{Page, bytes, page_at}
use Rattle.store.specs.declared.Store.{Ghosts as StoreGhosts}
use Rattle.policy.specs.declared.Policy.{Ghosts as PolicyGhosts}
use Rattle.stands.specs.Frames.{HasAt, Lacks}
use Rattle.pool.specs.Bringing.{Brought}
use Rattle.pool.specs.Opening.{wanted_with}
use Rattle.pool.specs.declared.pool.Pool.{Pool}

module _ {S V : Type 0} {stores : StoreGhosts S} {policies : PolicyGhosts V} where
  -- table, frames and the store's pages are these
  pub record Still (tab : AddressTable) (fs : List (Option Frame)) (ps : List Page) (t : Pool S V stores policies) : Type 0 where
    pub table : t.table ≡ tab
    pub frames : t.frames ≡ fs
    pub store : stores.pages t.store ≡ ps

  -- of a pool with this catalogue, table, frames, policy and pages, where the pages of a set keep their slots
  module _ (cat : ClosedCatalogue) (tab : AddressTable) (fs : List (Option Frame)) (count : ℕ) (pol : V) (ps : List Page) (standing : ℕ → Bool) where
    -- page n was read and came into frame i, which the policy was told last
    pub record Arrived (n : ℕ) (t : Pool S V stores policies) (i : ℕ) : Type 0 where
      pub lacks : Lacks fs n
      pub held : List ℕ
      pub content : (page_at ps n).content ≡ bytes held
      pub asked : ℕ → Bool
      pub wanted : (m : ℕ) → 0 < m → m ≤ 1024 → asked m ≡ wanted_with (types cat) standing n held m
      pub read : S
      pub same : stores.pages read ≡ ps
      pub needs : PageSet
      pub brought : Brought policies.picks stores.pages (types cat) asked tab.slots count n (cells_of held) needs i tab.page_of tab.slot_of fs pol read t.table.slot_of t.frames t.store
      pub told : policies.touches brought.last i t.policy

    -- opening page n leads to the pool t, and answers the page's frame or a refusal
    pub data Course (n : ℕ) (t : Pool S V stores policies) : Checked ℕ → Type 0 where
      -- it was in frame i already, which the policy is told
      resident : (i : ℕ) (f : Frame) → HasAt fs i f → f.page ≡ n → Still tab fs ps t → policies.touches pol i t.policy → Course n t (Ok i)
      arrived : (i : ℕ) → Arrived n t i → Course n t (Ok i)
      -- no victim left, and the policy is told nothing
      refused : (e : Fault) → Still tab fs ps t → t.policy ≡ pol → Course n t (Err e)

  -- opening page n leads from the pool s to the pool t
  abbrev pub Opens : (ℕ → Bool) → ℕ → Pool S V stores policies → Pool S V stores policies → Checked ℕ → Type 0
  Opens standing n s t r = Course s.catalogue s.table s.frames s.count s.policy (stores.pages s.store) standing n t r
