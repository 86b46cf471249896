-- The parts of a call. Assumes nothing.
use Rattle.std.specs.Prelude.{◌≡◌, ℕ, ◌<◌, ◌≤◌, Bool, true, false, cond, not, List, IfOk, Some, None, Ok, Err, Option, ◌==◌, slice_index, slice_index_or}
use Rattle.fault.specs.Refusals.{Checked, ◌>>=◌}
use Rattle.page.specs.Form.{type_at}
use Rattle.frame.specs.declared.frame.Frame.{Frame}
use Rattle.stands.specs.Frames.{HasAt, long_bytes}
use Rattle.page.specs.declared.link.Position.{Position}
use Rattle.graph.specs.Graphs.{on_cursor, opening}
use Rattle.graph.specs.Steps as steps
use Rattle.graph.specs.Steps.{starts_at}
use Rattle.pool.specs.Courses.{Opens}
use Rattle.pool.specs.Opening.{held_bytes, found}
use Rattle.service.specs.Calls.{Moves}
use Rattle.service.specs.Serving.{setting_of, graph_of}
use Rattle.service.specs.declared.service.Service.{Service}
use Rattle.service.specs.declared.service.reach.Spot.{Spot}
use Rattle.store.specs.declared.Store.{Ghosts as StoreGhosts}
use Rattle.policy.specs.declared.Policy.{Ghosts as PolicyGhosts}

-- a cursor stands on page m
abbrev pub on : Option Position → ℕ → Bool
on None m = false
on (Some at) m = m == at.page

-- whether a field is of the kind that is asked for
abbrev pub asks : Bool → Bool → Bool
asks link b = cond link b (not b)

-- the bytes, in long pointers, of the page in frame i
abbrev pub bytes_in : {S V : Type 0} → {stores : StoreGhosts S} → {policies : PolicyGhosts V} → Service S V stores policies → ℕ → List ℕ
bytes_in s i = held_bytes (setting_of s).types s.pool.table.page_of (slice_index_or s.pool.frames i None)

-- an object starts at the cell of the page n in frame i
pub record Object {S V : Type 0} {stores : StoreGhosts S} {policies : PolicyGhosts V} (s : Service S V stores policies) (i n k : ℕ) : Type 0 where
  pub frame : Frame
  pub has : HasAt s.pool.frames i frame
  pub page : frame.page ≡ n
  pub begins : starts_at (setting_of s).types (long_bytes (setting_of s).types s.pool.table.page_of frame) k ≡ true

-- the field of the object in a frame, as the graph has it
abbrev pub spot_of : {S V : Type 0} → {stores : StoreGhosts S} → {policies : PolicyGhosts V} → Service S V stores policies → ℕ → Spot → steps.Spot
spot_of s f o = record { page = o.at.page; cell = o.at.cell; field = f; bytes = bytes_in s o.frame }

abbrev pub spotted : {S V : Type 0} → {stores : StoreGhosts S} → {policies : PolicyGhosts V} → Service S V stores policies → ℕ → Checked Spot → Checked steps.Spot
spotted s f (Ok o) = Ok (spot_of s f o)
spotted s f (Err e) = Err e

module _ {S V : Type 0} {stores : StoreGhosts S} {policies : PolicyGhosts V} where
  -- page n was opened
  pub record Came (s t : Service S V stores policies) (n : ℕ) (r : Checked ℕ) : Type 0 where
    pub graph : graph_of t ≡ graph_of s
    pub answer : found (setting_of t).types t.pool.table.page_of t.pool.frames r ≡ opening (setting_of s) (graph_of s) n
    pub there : IfOk r (λ i. (f : Frame) × (HasAt t.pool.frames i f × (f.page ≡ n)))
    pub standing : ℕ → Bool
    pub agree : (m : ℕ) → 0 < m → m ≤ 1024 → standing m ≡ on_cursor s.cursors m
    pub course : Opens standing n s.pool t.pool r

  -- field f of the object on which cursor c stands was come to
  pub record Reached (s t : Service S V stores policies) (c f : ℕ) (link : Bool) (r : Checked Spot) : Type 0 where
    pub graph : graph_of t ≡ graph_of s
    pub answer : spotted t f r ≡ steps.field (setting_of s) (graph_of s) (asks link) c f
    pub there : IfOk r (λ o. Object t o.frame o.at.page o.at.cell × (f < (type_at (setting_of t).types (bytes_in t o.frame) o.at.cell).size))
    pub moves : Moves (λ n. (at : Position) × ((slice_index_or s.cursors c None ≡ Some at) × (n ≡ at.page))) s.cursors s.pool t.pool

  -- the object there was come to
  pub record Entered (s t : Service S V stores policies) (at : Position) (r : Checked (Unit {0})) : Type 0 where
    pub graph : graph_of t ≡ graph_of s
    pub answer : r ≡ (opening (setting_of s) (graph_of s) at.page >>= (λ bs. steps.object (setting_of s) (graph_of s) bs at))
    pub there : IfOk r (λ _. 0 < slice_index t.pool.table.slot_of at.page)
    pub moves : Moves (λ n. n ≡ at.page) s.cursors s.pool t.pool
