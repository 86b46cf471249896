-- What a call answers and leaves. Assumes nothing.
use Rattle.std.specs.Prelude.{◌≡◌, ℕ, ◌<◌, ◌≤◌, Bool, List, Some, None, Ok, Err, Option}
use Rattle.fault.specs.Refusals.{Checked}
use Rattle.page.specs.declared.link.Position.{Position}
use Rattle.graph.specs.declared.calls.Call.{Call}
use Rattle.graph.specs.declared.calls.Value.{Value}
use Rattle.graph.specs.declared.calls.Value.TheVariants.{Done, Number, At, Names}
use Rattle.graph.specs.Graphs.{on_cursor}
use Rattle.graph.specs.Openings as openings
use Rattle.graph.specs.Shown.{Shown}
use Rattle.graph.specs.Steps.{Answer, position, step}
use Rattle.pool.specs.Courses.{Opens}
use Rattle.pool.specs.declared.pool.Pool.{Pool}
use Rattle.service.specs.Serving.{setting_of, owners, Kept, graph_of, Holding}
use Rattle.service.specs.declared.service.Service.{Service}
use Rattle.store.specs.declared.Store.{Ghosts as StoreGhosts}
use Rattle.policy.specs.declared.Policy.{Ghosts as PolicyGhosts}

-- what each kind of call returns, as an answer
abbrev pub answered : {A : Type 0} → (A → Value) → Checked A → Answer
answered v (Ok x) = Ok (v x)
answered v (Err e) = Err e

abbrev pub done : Checked (Unit {0}) → Answer
done = answered (λ _. Done)

abbrev pub number : Checked ℕ → Answer
number = answered (λ x. Number x)

abbrev pub link_of : Option (ℕ × ℕ) → Option Position
link_of None = None
link_of (Some p) = Some (position p.0 p.1)

abbrev pub names : Checked (Option (ℕ × ℕ)) → Answer
names = answered (λ x. Names (link_of x))

abbrev pub place : Checked (ℕ × ℕ) → Answer
place = answered (λ p. At (position p.0 p.1))

module _ {S V : Type 0} {stores : StoreGhosts S} {policies : PolicyGhosts V} where
  -- a pool goes on by opening pages, each of which may be opened, beside those on which the cursors stand
  pub data Moves (may : ℕ → Type 0) (cursors : List (Option Position)) : Pool S V stores policies → Pool S V stores policies → Type 0 where
    rests : (p : Pool S V stores policies) → Moves may cursors p p
    opens : (n : ℕ) (p q t : Pool S V stores policies) (standing : ℕ → Bool) (r : Checked ℕ) → may n → ((m : ℕ) → 0 < m → m ≤ 1024 → standing m ≡ on_cursor cursors m) → Opens standing n p q r → Moves may cursors q t → Moves may cursors p t

  -- the call c took a service from s to t and answered a, as the graph does
  pub record Did (s t : Service S V stores policies) (c : Call) (a : Answer) : Type 0 where
    pub answer : Shown (owners t) c (step (setting_of s) (graph_of s) c).0 a
    pub after : graph_of t ≡ (step (setting_of s) (graph_of s) c).1
    pub kept : Kept s t
    pub holding : Holding t
    pub moves : Moves (openings.Opens (setting_of s) (graph_of s) c) s.cursors s.pool t.pool
