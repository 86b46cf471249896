-- What a service stands for, and what is so of it between calls. Assumes nothing.
use Rattle.std.specs.Prelude.{◌≡◌, ℕ, ◌<◌, true, List, Some, None, Option, slice_index, slice_index_or}
use Rattle.page.specs.Types.{types}
use Rattle.page.specs.Walks.{cells_of, links_to}
use Rattle.frame.specs.Links.{swizzled}
use Rattle.frame.specs.declared.frame.Frame.{Frame}
use Rattle.store.specs.Pages.{bytes, page_at}
use Rattle.stands.specs.Frames.{HasAt}
use Rattle.page.specs.declared.link.Position.{Position}
use Rattle.graph.specs.Graphs.{Graph, Setting}
use Rattle.pool.specs.Looking.{owner_of}
use Rattle.service.specs.Graphing.{graph_at}
use Rattle.service.specs.declared.service.Service.{Service}
use Rattle.store.specs.declared.Store.{Ghosts as StoreGhosts}
use Rattle.policy.specs.declared.Policy.{Ghosts as PolicyGhosts}

-- the types of its catalogue, and its number of addresses
abbrev pub setting_of : {S V : Type 0} → {stores : StoreGhosts S} → {policies : PolicyGhosts V} → Service S V stores policies → Setting
setting_of s = record { types = types s.pool.catalogue; addresses = s.pool.table.slots }

-- the page that each slot belongs to
abbrev pub owners : {S V : Type 0} → {stores : StoreGhosts S} → {policies : PolicyGhosts V} → Service S V stores policies → ℕ → Option ℕ
owners s i = owner_of s.pool.table.page_of s.pool.table.slots i

-- catalogue and plan are as they were
pub record Kept {S V : Type 0} {stores : StoreGhosts S} {policies : PolicyGhosts V} (s t : Service S V stores policies) : Type 0 where
  pub catalogue : t.pool.catalogue ≡ s.pool.catalogue
  pub addresses : t.pool.table.slots ≡ s.pool.table.slots
  pub frames : t.pool.count ≡ s.pool.count

module _ {S V : Type 0} {stores : StoreGhosts S} {policies : PolicyGhosts V} where
  -- the graph that it stands for
  abbrev pub graph_of : Service S V stores policies → Graph
  graph_of s = graph_at s.pool s.cursors

  -- a frame holds a page of the graph, with addresses for its present links; the page and those that it links to have slots
  pub record Framed (s : Service S V stores policies) (f : Frame) : Type 0 where
    pub held : List ℕ
    pub page : (page_at (graph_of s).pages f.page).content ≡ bytes held
    pub cells : f.cells ≡ swizzled (setting_of s).types s.pool.table.slot_of (cells_of held)
    pub own : 0 < slice_index s.pool.table.slot_of f.page
    pub links : (m : ℕ) → links_to (setting_of s).types (cells_of held) m ≡ true → 0 < slice_index s.pool.table.slot_of m

  -- and so do all occupied frames; the cursors' pages have slots too
  pub record Holding (s : Service S V stores policies) : Type 0 where
    pub frames : (i : ℕ) (f : Frame) → HasAt s.pool.frames i f → Framed s f
    pub cursors : (c : ℕ) (at : Position) → slice_index_or s.cursors c None ≡ Some at → 0 < slice_index s.pool.table.slot_of at.page
