-- The course of an opening. Assumes nothing.
use Rattle.std.proofs.Common.{◌≡◌, ℕ, ◌<◌, ◌≤◌, Bool, ◌||◌, eqb, List, Ok, Err, sym, refl, ap, ◌∙◌, subst}
use Rattle.fault.specs.declared.kinds.Fault.{Fault}
use Rattle.fault.specs.Refusals.{Checked}
use Rattle.pageset.specs.Sets.{holds}
use Rattle.pageset.specs.declared.PageSet.{PageSet}
use Rattle.page.specs.Types.{types}
use Rattle.page.specs.Walks.{cells_of, links_to}
use Rattle.store.specs.declared.Store.{Ghosts as StoreGhosts}
use Rattle.policy.specs.declared.Policy.{Ghosts as PolicyGhosts}
use Rattle.pool.specs.Bringing.{Brought}
use Rattle.pool.specs.Courses.{Still, Opens, arrived, refused}
use Rattle.pool.specs.Opening.{Incoming}
use Rattle.pool.specs.declared.pool.Pool.{Pool}
use Rattle.pool.proofs.Enters.{or_turn}

pub arrives : {S V : Type 0} {stores : StoreGhosts S} {policies : PolicyGhosts V} (s t : Pool S V stores policies) (standing asked : ℕ → Bool) (n : ℕ) (bs : List ℕ) (needs : PageSet)
    → Incoming (types s.catalogue) (stores.pages s.store) s.frames n bs
    → ((m : ℕ) → asked m ≡ (holds needs.words m || standing m))
    → ((m : ℕ) → 0 < m → m ≤ 1024 → holds needs.words m ≡ (eqb m n || links_to (types s.catalogue) (cells_of bs) m))
    → (i : ℕ) (b : Brought policies.picks stores.pages (types s.catalogue) asked s.table.slots s.count n (cells_of bs) needs i s.table.page_of s.table.slot_of s.frames s.policy s.store t.table.slot_of t.frames t.store)
    → policies.touches b.last i t.policy → Opens standing n s t (Ok i)
arrives s t standing asked n bs needs incoming joined own i b told =
    arrived i (record {
      lacks = incoming.lacks;
      held = bs;
      content = incoming.content;
      asked = asked;
      wanted = λ m low high. joined m ∙ ap (λ b. b || standing m) (own m low high) ∙ or_turn (eqb m n || links_to (types s.catalogue) (cells_of bs) m) (standing m);
      read = s.store;
      same = refl;
      needs = needs;
      brought = b;
      told = told;
    })

pub turned_course : {S V : Type 0} {stores : StoreGhosts S} {policies : PolicyGhosts V} (s t : Pool S V stores policies) (standing : ℕ → Bool) (n : ℕ) (r : Checked ℕ) (e : Fault) → r ≡ Err e → Still s.table s.frames (stores.pages s.store) t → t.policy ≡ s.policy → Opens standing n s t r
turned_course s t standing n r e is still same = subst (λ (x : Checked ℕ). Opens standing n s t x) (sym is) (refused e still same)
