-- Which page a call comes to open. Assumes nothing.
use Rattle.std.specs.Prelude.{◌≡◌, ℕ, ◌/◌, ◌<◌, ◌≤◌, true, Some, None, Ok, slice_index_or}
use Rattle.page.specs.Descriptors.{declared}
use Rattle.store.specs.Pages.{is_page}
use Rattle.graph.specs.declared.calls.Call.{Call}
use Rattle.graph.specs.declared.calls.Call.TheVariants.{Stand, Follow, Read, Target, Note, Join, Part, Add, Glance}
use Rattle.page.specs.declared.link.Position.{Position}
use Rattle.graph.specs.Graphs.{Graph, Setting}
use Rattle.graph.specs.Steps.{Spot, held, link_field}

-- the cursor is one of the sixteen and stands there
pub record On (g : Graph) (c : ℕ) (at : Position) : Type 0 where
  pub known : c ≤ 15
  pub stands : slice_index_or g.cursors c None ≡ Some at

-- a call opens the page that it names, or that of its first cursor's object; follow then opens that of the link's target
pub data Opens (s : Setting) (g : Graph) : Call → ℕ → Type 0 where
  stand : (c n k : ℕ) → c ≤ 15 → is_page g.pages n ≡ true → Opens s g (Stand c n k) n
  add : (c t n : ℕ) → c ≤ 15 → declared s.types t ≡ true → is_page g.pages n ≡ true → Opens s g (Add c t n) n
  read : (c f : ℕ) (at : Position) → On g c at → Opens s g (Read c f) at.page
  target : (c f : ℕ) (at : Position) → On g c at → Opens s g (Target c f) at.page
  glance : (c f : ℕ) (at : Position) → On g c at → Opens s g (Glance c f) at.page
  note : (c f x : ℕ) (at : Position) → On g c at → Opens s g (Note c f x) at.page
  part : (c f : ℕ) (at : Position) → On g c at → Opens s g (Part c f) at.page
  join : (c f d : ℕ) (at to : Position) → On g c at → On g d to → Opens s g (Join c f d) at.page
  follow : (c f d : ℕ) (at : Position) → On g c at → d ≤ 15 → Opens s g (Follow c f d) at.page
  follow_on : (c f d : ℕ) (o : Spot) → c ≤ 15 → d ≤ 15 → link_field s g c f ≡ Ok o → 0 < held o → Opens s g (Follow c f d) (held o / 64)
