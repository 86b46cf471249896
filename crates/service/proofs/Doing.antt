-- What a call that was refused or granted did. Assumes nothing.
use Rattle.std.proofs.Common.{◌≡◌, ℕ, ◌≤◌, List, length, Ok, Err, Option, sym, refl, ap, ◌∙◌, subst}
use Rattle.fault.specs.declared.kinds.Fault.{Fault}
use Rattle.fault.specs.Refusals.{Checked}
use Rattle.store.specs.Pages.{Whole, page_at}
use Rattle.graph.specs.Steps.{Answer}
use Rattle.graph.specs.declared.calls.Call.{Call}
use Rattle.graph.specs.declared.calls.Call.TheVariants.{Stand, Follow, Read, Target, Note, Join, Part, Add, Leave, Where, Glance, Slot, Save}
use Rattle.page.specs.declared.link.Position.{Position}
use Rattle.graph.specs.declared.calls.Value.{Value}
use Rattle.graph.specs.Graphs.{Graph, Setting}
use Rattle.graph.specs.Openings as openings
use Rattle.graph.specs.Shown.{Shown, Glanced}
use Rattle.graph.specs.Standing.{OnObjects}
use Rattle.graph.specs.Steps.{granted, settled, step}
use Rattle.graph.proofs.Kept.{step_leaves}
use Rattle.pool.specs.declared.pool.Pool.{Pool}
use Rattle.service.specs.Calls.{Moves, rests, opens, Did}
use Rattle.service.specs.Serving.{setting_of, owners, Kept, graph_of}
use Rattle.service.specs.declared.service.Service.{Service}
use Rattle.service.specs.Graphing.{Standing}
use Rattle.service.proofs.Holds.{on_objects, standing, limits, holding}
use Rattle.service.proofs.Reach.{ok_err}
use Rattle.store.specs.declared.Store.{Ghosts as StoreGhosts}
use Rattle.policy.specs.declared.Policy.{Ghosts as PolicyGhosts}

module _ (s : Setting) (g : Graph) (e : Fault) where
  refused_is : (c : Call) → granted s g c ≡ Err e → Err e ≡ (step s g c).0
  refused_is c h = sym (ap (λ (r : Checked (Value × Graph)). (settled g r).0) h)

  -- a refusal is shown as it is
  refusal_shown : (owner : ℕ → Option ℕ) (c : Call) → granted s g c ≡ Err e → Shown owner c (step s g c).0 (Err e)
  refusal_shown owner (Stand c n k) h = refused_is (Stand c n k) h
  refusal_shown owner (Follow c f d) h = refused_is (Follow c f d) h
  refusal_shown owner (Read c f) h = refused_is (Read c f) h
  refusal_shown owner (Target c f) h = refused_is (Target c f) h
  refusal_shown owner (Note c f x) h = refused_is (Note c f x) h
  refusal_shown owner (Join c f d) h = refused_is (Join c f d) h
  refusal_shown owner (Part c f) h = refused_is (Part c f) h
  refusal_shown owner (Add c t n) h = refused_is (Add c t n) h
  refusal_shown owner (Leave c) h = refused_is (Leave c) h
  refusal_shown owner (Where c) h = refused_is (Where c) h
  refusal_shown owner (Glance c f) h = subst (λ (a : Answer). Glanced owner a (Err e)) (refused_is (Glance c f) h) refl
  refusal_shown owner (Slot i) h = absurd (ok_err _ e (sym h))
  refusal_shown owner Save h = absurd (ok_err _ e (sym h))

module _ {S V : Type 0} {stores : StoreGhosts S} {policies : PolicyGhosts V} where
  pub moves_to : {P : ℕ → Type 0} (Q : ℕ → Type 0) {cs : List (Option Position)} {p q : Pool S V stores policies} → ((n : ℕ) → P n → Q n) → Moves P cs p q → Moves Q cs p q
  moves_to Q f (rests p) = rests p
  moves_to Q f (opens n p q t standing r may agree course more) = opens n p q t standing r (f n may) agree course (moves_to Q f more)

  pub moves_on : {P : ℕ → Type 0} {cs : List (Option Position)} {p q t : Pool S V stores policies} → Moves P cs p q → Moves P cs q t → Moves P cs p t
  moves_on (rests p) more = more
  moves_on (opens n p q t standing r may agree course rest) more = opens n p q _ standing r may agree course (moves_on rest more)

module _ {S V : Type 0} {stores : StoreGhosts S} {policies : PolicyGhosts V} (few : (x : S) → length (stores.pages x) ≤ 1024) (whole : (x : S) (n : ℕ) → Whole (page_at (stores.pages x) n).content)
    (s : Service S V stores policies) (c : Call)
  where
    -- where a call is granted the cursors stand on objects of the graph that it leaves
    pub stand_granted : (v : Value) (g : Graph) → granted (setting_of s) (graph_of s) c ≡ Ok (v, g) → Standing (setting_of s).types g
    stand_granted v g h =
        standing (setting_of s).types g
        (subst (λ (y : Graph). OnObjects (setting_of s).types y) (ap (λ (r : Checked (Value × Graph)). (settled (graph_of s) r).1) h)
        (step_leaves (setting_of s) (graph_of s) (limits few s whole) (on_objects (setting_of s).types (graph_of s) s.stand) c).cursors)

    module _ (t : Service S V stores policies) (kept : Kept s t) where
      abbrev Path : Type 0
      Path = Moves (openings.Opens (setting_of s) (graph_of s) c) s.cursors s.pool t.pool

      pub refuses : (e : Fault) → graph_of t ≡ graph_of s → Path → granted (setting_of s) (graph_of s) c ≡ Err e → Did s t c (Err e)
      refuses e same path h = record {
        answer = refusal_shown (setting_of s) (graph_of s) e (owners t) c h;
        after = same ∙ sym (ap (λ (r : Checked (Value × Graph)). (settled (graph_of s) r).1) h);
        kept = kept;
        holding = holding few t;
        moves = path;
      }

      pub grants : (v : Value) (g : Graph) (a : Answer) → granted (setting_of s) (graph_of s) c ≡ Ok (v, g) → graph_of t ≡ g → Path → Shown (owners t) c (Ok v) a → Did s t c a
      grants v g a h is path shows = record {
        answer = subst (λ (x : Answer). Shown (owners t) c x a) (sym (ap (λ (r : Checked (Value × Graph)). (settled (graph_of s) r).0) h)) shows;
        after = is ∙ sym (ap (λ (r : Checked (Value × Graph)). (settled (graph_of s) r).1) h);
        kept = kept;
        holding = holding few t;
        moves = path;
      }
