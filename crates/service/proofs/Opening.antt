-- A service opens a page as the graph does. Assumes nothing.
use Rattle.std.proofs.Common.{◌≡◌, ℕ, ◌<◌, ◌≤◌, Bool, true, false, ◌&&◌, ◌||◌, eqb, ltb, leb, List, length, Ok, Err, Option, sym, refl, ap, ◌∙◌, subst, arith}
use Rattle.std.proofs.lemmas.Bool.{and_from, le-leb, lt-ltb}
use Rattle.fault.specs.declared.kinds.Cause.TheVariants.{NoAddresses}
use Rattle.fault.specs.Faults.{on_page, fault}
use Rattle.fault.specs.Refusals.{Checked, ◌>>=◌, ◌>>◌, ◌else◌}
use Rattle.pageset.specs.Sets.{tally}
use Rattle.page.specs.Form.{first_fault}
use Rattle.page.specs.Types.{types}
use Rattle.page.specs.Walks.{cells_of, links_to}
use Rattle.page.specs.declared.catalogue.ClosedCatalogue.{ClosedCatalogue}
use Rattle.page.specs.declared.descriptor.Descriptor.{Descriptor}
use Rattle.frame.specs.Links.{is_page as is_number}
use Rattle.store.specs.Pages.{Page, is_page}
use Rattle.stands.specs.Frames.{stands_for}
use Rattle.page.specs.declared.link.Position.{Position}
use Rattle.graph.specs.Graphs.{Graph, Setting, on_cursor, fetched, wanted_count, wanted, opening}
use Rattle.pool.specs.Courses.{Opens}
use Rattle.pool.specs.Pools.{Fixed, OpenedTo}
use Rattle.pool.specs.Needs.{Covers}
use Rattle.pool.specs.Opening.{wanted_with, opening_with, found}
use Rattle.pool.specs.declared.pool.Pool.{Pool}
use Rattle.pool.proofs.Frames.{tally_same}
use Rattle.service.specs.Graphing.{graph_at, Standing}
use Rattle.service.specs.Inner.{Came}
use Rattle.service.specs.Serving.{graph_of, Kept}
use Rattle.service.specs.declared.service.Service.{Service}
use Rattle.service.proofs.Holds.{as_many}
use Rattle.store.specs.declared.Store.{Ghosts as StoreGhosts}
use Rattle.policy.specs.declared.Policy.{Ghosts as PolicyGhosts}

bind_same : {A B : Type 0} (r : Checked A) (f h : A → Checked B) → ((x : A) → f x ≡ h x) → (r >>= f) ≡ (r >>= h)
bind_same (Ok x) f h e = e x
bind_same (Err e') f h e = refl

number : (m : ℕ) → 0 < m → m ≤ 1024 → is_number m ≡ true
number m low high = and_from (ltb 0 m) (leb m 1024) (lt-ltb 0 m low) (le-leb m 1024 high)

and_yes : (a b : Bool) → b ≡ true → (a && b) ≡ a
and_yes true b e = e
and_yes false b e = refl

-- an opening beside the cursors' pages is the graph's
opening_same : (ts : List Descriptor) (a : ℕ) (g : Graph) (keep : ℕ → Bool) (n : ℕ) → ((m : ℕ) → 0 < m → m ≤ 1024 → keep m ≡ on_cursor g.cursors m)
    → opening_with ts a g.pages keep n ≡ opening (record { types = ts; addresses = a }) g n
opening_same ts a g keep n agree =
    let s : Setting = record { types = ts; addresses = a } in
    bind_same (fetched g.pages n)
    (λ bs. first_fault (length g.pages) n bs ts >> ((leb (tally (wanted_with ts keep n bs) 1024) a else fault NoAddresses 4 (on_page n)) >> Ok bs))
    (λ bs. first_fault (length g.pages) n bs ts >> ((leb (wanted_count s g n bs) a else fault NoAddresses 4 (on_page n)) >> Ok bs))
    (λ bs. ap (λ x. first_fault (length g.pages) n bs ts >> ((leb x a else fault NoAddresses 4 (on_page n)) >> Ok bs))
    (tally_same (wanted_with ts keep n bs) (wanted s g n bs) 1024 (λ m low high. ap (λ b. b || (eqb m n || links_to ts (cells_of bs) m)) (agree m low high))))

module _ {S V : Type 0} {stores : StoreGhosts S} {policies : PolicyGhosts V} (few : (x : S) → length (stores.pages x) ≤ 1024) (s : Service S V stores policies) (q : Pool S V stores policies)
    (fixed : Fixed s.pool q) (keep : ℕ → Bool) (stands : (m : ℕ) → keep m ≡ (on_cursor s.cursors m && is_number m)) (n : ℕ) (page : is_page (graph_of s).pages n ≡ true)
  where
    abbrev k : ClosedCatalogue
    k = s.pool.catalogue

    pub agrees : (m : ℕ) → 0 < m → m ≤ 1024 → keep m ≡ on_cursor s.cursors m
    agrees m low high = stands m ∙ and_yes (on_cursor s.cursors m) (is_number m) (number m low high)

    pub covers_standing : Covers s.pool.table.slot_of keep
    covers_standing m low high e = s.covered m low high (sym (agrees m low high) ∙ e)

    pub page_there : is_page (stores.pages s.pool.store) n ≡ true
    page_there = ap (λ x. ltb 0 n && leb n x) (sym (as_many few s.pool)) ∙ page

    module _ (r : Checked ℕ) (o : OpenedTo keep n s.pool q r) where
      pub same_graph : graph_at q s.cursors ≡ graph_of s
      same_graph = ap (λ (ps : List Page). record { pages = ps; cursors = s.cursors }) (ap (λ (x : ClosedCatalogue). stands_for (types x) q.table.page_of (stores.pages q.store) q.frames) fixed.catalogue ∙ o.stands)

      -- cursors stand where they stood
      pub stand_after : Standing (types q.catalogue) (graph_at q s.cursors)
      stand_after =
          subst (λ (x : ClosedCatalogue). Standing (types x) (graph_at q s.cursors)) (sym fixed.catalogue) (subst (λ (g : Graph). Standing (types k) g) (sym same_graph) s.stand)

      pub covered_after : Covers q.table.slot_of (on_cursor s.cursors)
      covered_after m low high h =
          let was = s.covered m low high h in
          let same = o.kept m (agrees m low high ∙ h) was in
          omega (arith, was, same)

pub came : {S V : Type 0} {stores : StoreGhosts S} {policies : PolicyGhosts V} (few : (x : S) → length (stores.pages x) ≤ 1024) (s t : Service S V stores policies) (cursors : t.cursors ≡ s.cursors)
    (fixed : Fixed s.pool t.pool) (keep : ℕ → Bool) (stands : (m : ℕ) → keep m ≡ (on_cursor s.cursors m && is_number m)) (n : ℕ) (page : is_page (graph_of s).pages n ≡ true) (r : Checked ℕ)
    → OpenedTo keep n s.pool t.pool r → Opens keep n s.pool t.pool r → Came s t n r
came few s t cursors fixed keep stands n page r o c = record {
  graph = ap (λ (cs : List (Option Position)). graph_at t.pool cs) cursors ∙ same_graph few s t.pool fixed keep stands n page r o;
  answer = ap (λ (x : ClosedCatalogue). found (types x) t.pool.table.page_of t.pool.frames r) fixed.catalogue ∙ o.answer ∙ opening_same (types s.pool.catalogue) s.pool.table.slots (graph_of s) keep n (agrees few s t.pool fixed keep stands n page);
  there = o.there;
  standing = keep;
  agree = agrees few s t.pool fixed keep stands n page;
  course = c;
}

pub kept_by : {S V : Type 0} {stores : StoreGhosts S} {policies : PolicyGhosts V} (s t : Service S V stores policies) → t.pool.catalogue ≡ s.pool.catalogue → t.pool.table.slots ≡ s.pool.table.slots → t.pool.count ≡ s.pool.count → Kept s t
kept_by s t a b c = record { catalogue = a; addresses = b; frames = c }
