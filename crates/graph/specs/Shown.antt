-- What a service may show for the graph's answers. Only slots are open. Assumes nothing.
use Rattle.std.specs.Prelude.{◌≡◌, ℕ, ◌+◌, ◌*◌, Some, None, Ok, Err, Option}
use Rattle.page.specs.declared.link.Position.{Position}
use Rattle.graph.specs.declared.calls.Call.{Call}
use Rattle.graph.specs.declared.calls.Call.TheVariants.{Glance, Slot}
use Rattle.graph.specs.declared.calls.Value.{Value}
use Rattle.graph.specs.declared.calls.Value.TheVariants.{Number, Names, Page}
use Rattle.graph.specs.Steps.{Answer}

-- a frame's cell for what a link names: 0, or an address with the target's cell whose slot belongs to the target's page
pub data InFrame (owner : ℕ → Option ℕ) : Value → ℕ → Type 0 where
  absent : InFrame owner (Names None) 0
  address : (slot x : ℕ) (at : Position) → owner slot ≡ Some at.page → x ≡ 1048576 + 64 * slot + at.cell → InFrame owner (Names (Some at)) x

-- the page that each slot belongs to
module _ (owner : ℕ → Option ℕ) where
  abbrev pub Glanced : Answer → Answer → Type 0
  Glanced (Err e) shown = shown ≡ Err e
  Glanced (Ok v) shown = (x : ℕ) × (shown ≡ Ok (Number x)) × InFrame owner v x

  -- the call may show this for the graph's answer
  abbrev pub Shown : Call → Answer → Answer → Type 0
  Shown (Glance c f) a shown = Glanced a shown
  Shown (Slot i) a shown = shown ≡ Ok (Page (owner i))
  Shown _ a shown = shown ≡ a
