-- Calls that move cursors. Assumes nothing.
use Rattle.std.proofs.Common.{◌≡◌, ℕ, ◌/◌, ◌<◌, ◌≤◌, Bool, true, false, ◌&&◌, eqb, ltb, leb, List, length, get_or, set, IfOk, Some, None, Ok, Err, Option, sym, refl, ap, ◌∙◌, subst, ⊎_elim, arith}
use Rattle.std.proofs.lemmas.Bool.{and_parts, and_from, or_cases, eqb-true, lt-ltb, le-ltb}
use Rattle.fault.specs.declared.kinds.Cause.TheVariants.{NoPage, NoObject, AbsentLink}
use Rattle.fault.specs.declared.kinds.Fault.{Fault}
use Rattle.fault.specs.Faults.{on_page, on_cell, fault, via}
use Rattle.fault.specs.Refusals.{Checked, ◌>>=◌, ◌>>◌, ◌else◌}
use Rattle.page.specs.Links.{is_link, is_long_pointer}
use Rattle.page.specs.Types.{types}
use Rattle.page.specs.declared.catalogue.ClosedCatalogue.{ClosedCatalogue}
use Rattle.frame.specs.declared.frame.Frame.{Frame}
use Rattle.store.specs.Pages.{Whole, page_at, is_page}
use Rattle.stands.specs.Frames.{HasAt, long_bytes}
use Rattle.graph.specs.declared.calls.Call.{Call}
use Rattle.graph.specs.declared.calls.Call.TheVariants.{Stand, Follow, Leave, Where}
use Rattle.page.specs.declared.link.Position.{Position}
use Rattle.graph.specs.declared.calls.Value.TheVariants.{Done, At}
use Rattle.graph.specs.Graphs.{Graph, Setting, on_cursor, opening}
use Rattle.graph.specs.Openings as openings
use Rattle.graph.specs.Shown.{Shown}
use Rattle.service.specs.Graphing.{graph_at, Standing}
use Rattle.graph.specs.Steps as steps
use Rattle.graph.specs.Steps.{starts_at, held, position, pointed, on_spot, first, granted}
use Rattle.pool.specs.declared.pool.Pool.{Pool}
use Rattle.pool.specs.Needs.{Covers}
use Rattle.pool.specs.Opening.{held_bytes}
use Rattle.service.specs.Calls.{Moves, rests, opens, Did}
use Rattle.service.specs.Inner.{bytes_in, spot_of, Came, Reached, Entered}
use Rattle.service.specs.Serving.{setting_of, owners, graph_of, Kept}
use Rattle.service.specs.declared.service.Service.{Service}
use Rattle.service.specs.declared.service.reach.Spot.{Spot}
use Rattle.service.proofs.Doing.{moves_to, moves_on, stand_granted, refuses, grants}
use Rattle.service.proofs.Holds.{as_many, framed_slot, on_left, on_put}
use Rattle.service.proofs.Reach.{bind_ok, bind_err, then_ok, then_err, else_ok, else_err}
use Rattle.service.proofs.Telling.{cursor_known, path, field_is, link_is, refused_field}
use Rattle.store.specs.declared.Store.{Ghosts as StoreGhosts}
use Rattle.policy.specs.declared.Policy.{Ghosts as PolicyGhosts}

pub then_later : {A B : Type 0} (r : Checked A) (f : A → Checked (Unit {0})) (q : Checked B) → (r >>= (λ x. f x >> q)) ≡ ((r >>= f) >> q)
then_later (Ok x) f q = refl
then_later (Err e) f q = refl

pub kept_on : {S V : Type 0} {stores : StoreGhosts S} {policies : PolicyGhosts V} (s u t : Service S V stores policies) → Kept s u → Kept u t → Kept s t
kept_on s u t a b = record { catalogue = b.catalogue ∙ a.catalogue; addresses = b.addresses ∙ a.addresses; frames = b.frames ∙ a.frames }

pub same_setting : {S V : Type 0} {stores : StoreGhosts S} {policies : PolicyGhosts V} (s t : Service S V stores policies) → Kept s t → setting_of t ≡ setting_of s
same_setting s t k =
    ap (λ (x : ClosedCatalogue). record { types = types x; addresses = t.pool.table.slots }) k.catalogue
    ∙ ap (λ (a : ℕ). record { types = types s.pool.catalogue; addresses = a }) k.addresses

-- a cursor is put on an object whose page has a slot
pub covers_put : (slot : List ℕ) (cs : List (Option Position)) (c : ℕ) (at : Position) → Covers slot (on_cursor cs) → 0 < get_or slot at.page 0 → Covers slot (on_cursor (set cs c (Some at)))
covers_put slot cs c at covered h m low high e =
    ⊎_elim (λ (d : m ≡ at.page). subst (λ x. 0 < get_or slot x 0) (sym d) h) (λ (d : on_cursor cs m ≡ true). covered m low high d) (on_put cs c m at e)

pub covers_left : (slot : List ℕ) (cs : List (Option Position)) (c : ℕ) → Covers slot (on_cursor cs) → Covers slot (on_cursor (set cs c None))
covers_left slot cs c covered m low high e = covered m low high (on_left cs c m e)

module _ {S V : Type 0} {stores : StoreGhosts S} {policies : PolicyGhosts V} (few : (x : S) → length (stores.pages x) ≤ 1024) where
  -- whether there is a page, as the pool tells it
  module _ (s : Service S V stores policies) (n : ℕ) (b : Bool) (told : b ≡ (ltb 0 n && leb n s.pool.pages)) where
    has_page : b ≡ is_page (graph_of s).pages n
    has_page = told ∙ ap (λ x. ltb 0 n && leb n x) (s.pool.tied.counted ∙ sym (as_many few s.pool))

    pub page_there : b ≡ true → Ok tt ≡ steps.page (setting_of s) (graph_of s) n
    page_there h = sym (else_ok (is_page (graph_of s).pages n) _ (sym has_page ∙ h))

    pub page_missing : b ≡ false → Err (fault NoPage 2 (on_page n)) ≡ steps.page (setting_of s) (graph_of s) n
    page_missing h = sym (else_err (is_page (graph_of s).pages n) _ (sym has_page ∙ h))

  module _ (s t : Service S V stores policies) (at : Position) (kept : Kept s t) where
    entering : (r : Checked ℕ) → Came s t at.page r → Moves (λ n. n ≡ at.page) s.cursors s.pool t.pool
    entering r w = opens at.page s.pool t.pool t.pool w.standing r refl w.agree w.course (rests t.pool)

    pub not_entered : (e : Fault) → Came s t at.page (Err e) → Entered s t at (Err e)
    not_entered e w = record {
      graph = w.graph;
      answer = sym (bind_err (opening (setting_of s) (graph_of s) at.page) (λ bs. steps.object (setting_of s) (graph_of s) bs at) e (sym w.answer));
      there = tt;
      moves = entering (Err e) w;
    }

    module _ (i : ℕ) (w : Came s t at.page (Ok i)) (b : Bool)
        (told : (f : Frame) → HasAt t.pool.frames i f → b ≡ starts_at (setting_of t).types (long_bytes (setting_of t).types t.pool.table.page_of f) at.cell)
      where
        starts_is : b ≡ starts_at (setting_of s).types (bytes_in t i) at.cell
        starts_is =
            told w.there.0 w.there.1.0
            ∙ ap (λ (o : Option Frame). starts_at (setting_of t).types (held_bytes (setting_of t).types t.pool.table.page_of o) at.cell) (sym w.there.1.0)
            ∙ ap (λ (k : ClosedCatalogue). starts_at (types k) (bytes_in t i) at.cell) kept.catalogue

        goes_on : (opening (setting_of s) (graph_of s) at.page >>= (λ bs. steps.object (setting_of s) (graph_of s) bs at)) ≡ steps.object (setting_of s) (graph_of s) (bytes_in t i) at
        goes_on = bind_ok (opening (setting_of s) (graph_of s) at.page) (λ bs. steps.object (setting_of s) (graph_of s) bs at) (bytes_in t i) (sym w.answer)

        pub no_object : (e : Fault) → e ≡ fault NoObject 2 (on_cell at.page at.cell) → b ≡ false → Entered s t at (Err e)
        no_object e is h = record {
          graph = w.graph;
          answer = ap (λ (x : Fault). Err x) is ∙ sym (goes_on ∙ else_err (starts_at (setting_of s).types (bytes_in t i) at.cell) _ (sym starts_is ∙ h));
          there = tt;
          moves = entering (Ok i) w;
        }

        pub has_object : b ≡ true → Entered s t at (Ok tt)
        has_object h = record {
          graph = w.graph;
          answer = sym (goes_on ∙ else_ok (starts_at (setting_of s).types (bytes_in t i) at.cell) _ (sym starts_is ∙ h));
          there = subst (λ n. 0 < get_or t.pool.table.slot_of n 0) w.there.1.1 (framed_slot few t.pool i w.there.0 w.there.1.0);
          moves = entering (Ok i) w;
        }

-- the chains of refusals
module _ (s : Setting) (g : Graph) where
  abbrev entered : Position → Checked (Unit {0})
  entered at = opening s g at.page >>= (λ bs. steps.object s g bs at)

  module _ (c n k : ℕ) where
    abbrev spot : Position
    spot = position n (first k)

    stand_is : granted s g (Stand c n k) ≡ steps.done s g (steps.cursor c >> (steps.page s g n >> (entered spot >> Ok (steps.placed s g c (Some spot)))))
    stand_is = ap (λ (r : Checked Graph). steps.done s g (steps.cursor c >> (steps.page s g n >> r))) (then_later (opening s g n) (λ bs. steps.object s g bs spot) (Ok (steps.placed s g c (Some spot))))

    pub stand_cursor : (e : Fault) → steps.cursor c ≡ Err e → granted s g (Stand c n k) ≡ Err e
    stand_cursor e x = ap (λ (r : Checked Graph). steps.done s g r) (then_err (steps.cursor c) (steps.page s g n >> (opening s g n >>= (λ bs. steps.object s g bs spot >> Ok (steps.placed s g c (Some spot))))) e x)

    pub stand_page : (e : Fault) → steps.cursor c ≡ Ok tt → steps.page s g n ≡ Err e → granted s g (Stand c n k) ≡ Err e
    stand_page e x y =
        stand_is ∙ ap (λ (r : Checked Graph). steps.done s g r) (then_ok (steps.cursor c) _ tt x ∙ then_err (steps.page s g n) (entered spot >> Ok (steps.placed s g c (Some spot))) e y)

    pub stand_after : (r : Checked (Unit {0})) → steps.cursor c ≡ Ok tt → steps.page s g n ≡ Ok tt → entered spot ≡ r → granted s g (Stand c n k) ≡ steps.done s g (r >> Ok (steps.placed s g c (Some spot)))
    stand_after r x y z =
        stand_is ∙ ap (λ (q : Checked Graph). steps.done s g q) (then_ok (steps.cursor c) _ tt x ∙ then_ok (steps.page s g n) (entered spot >> Ok (steps.placed s g c (Some spot))) tt y ∙ ap (λ (q : Checked (Unit {0})). q >> Ok (steps.placed s g c (Some spot))) z)

  pub leave_cursor : (c : ℕ) (e : Fault) → steps.cursor c ≡ Err e → granted s g (Leave c) ≡ Err e
  leave_cursor c e x = ap (λ (r : Checked (Unit {0})). steps.done s g (r >> Ok (steps.placed s g c None))) x

  pub leave_ok : (c : ℕ) → steps.cursor c ≡ Ok tt → granted s g (Leave c) ≡ Ok (Done, steps.placed s g c None)
  leave_ok c x = ap (λ (r : Checked (Unit {0})). steps.done s g (r >> Ok (steps.placed s g c None))) x

  pub where_cursor : (c : ℕ) (e : Fault) → steps.cursor c ≡ Err e → granted s g (Where c) ≡ Err e
  where_cursor c e x = ap (λ (r : Checked (Unit {0})). steps.told s g (λ at. At at) (r >> steps.stands_on s g c)) x

  pub where_after : (c : ℕ) (q : Checked Position) → steps.cursor c ≡ Ok tt → steps.stands_on s g c ≡ q → granted s g (Where c) ≡ steps.told s g (λ at. At at) q
  where_after c q x y = ap (λ (r : Checked Position). steps.told s g (λ at. At at) r) (then_ok (steps.cursor c) (steps.stands_on s g c) tt x ∙ y)

  module _ (c f d : ℕ) where
    abbrev onward : steps.Spot → Checked Graph
    onward o =
        (ltb 0 (held o) else fault AbsentLink 2 (on_spot o))
        >> steps.along (on_spot o) (opening s g (pointed (held o)).page >>= (λ bs. steps.object s g bs (pointed (held o)) >> Ok (steps.placed s g d (Some (pointed (held o))))))

    pub follow_first : (e : Fault) → steps.cursor c ≡ Err e → granted s g (Follow c f d) ≡ Err e
    follow_first e x = ap (λ (r : Checked (Unit {0})). steps.done s g (r >> (steps.cursor d >> (steps.link_field s g c f >>= onward)))) x

    pub follow_second : (e : Fault) → steps.cursor c ≡ Ok tt → steps.cursor d ≡ Err e → granted s g (Follow c f d) ≡ Err e
    follow_second e x y = ap (λ (r : Checked Graph). steps.done s g r) (then_ok (steps.cursor c) (steps.cursor d >> (steps.link_field s g c f >>= onward)) tt x ∙ then_err (steps.cursor d) (steps.link_field s g c f >>= onward) e y)

    follow_on : (q : Checked steps.Spot) → steps.cursor c ≡ Ok tt → steps.cursor d ≡ Ok tt → steps.link_field s g c f ≡ q → granted s g (Follow c f d) ≡ steps.done s g (q >>= onward)
    follow_on q x y z = ap (λ (r : Checked Graph). steps.done s g r) (then_ok (steps.cursor c) (steps.cursor d >> (steps.link_field s g c f >>= onward)) tt x ∙ then_ok (steps.cursor d) (steps.link_field s g c f >>= onward) tt y ∙ ap (λ (r : Checked steps.Spot). r >>= onward) z)

    pub follow_field : (e : Fault) → steps.cursor c ≡ Ok tt → steps.cursor d ≡ Ok tt → steps.link_field s g c f ≡ Err e → granted s g (Follow c f d) ≡ Err e
    follow_field e x y z = follow_on (Err e) x y z

    module _ (o : steps.Spot) (x : steps.cursor c ≡ Ok tt) (y : steps.cursor d ≡ Ok tt) (z : steps.link_field s g c f ≡ Ok o) where
      pub follow_absent : held o ≡ 0 → granted s g (Follow c f d) ≡ Err (fault AbsentLink 2 (on_spot o))
      follow_absent h =
          follow_on (Ok o) x y z
          ∙ ap (λ (b : Bool). steps.done s g ((b else fault AbsentLink 2 (on_spot o)) >> steps.along (on_spot o) (opening s g (pointed (held o)).page >>= (λ bs. steps.object s g bs (pointed (held o)) >> Ok (steps.placed s g d (Some (pointed (held o)))))))) (le-ltb 0 (held o) (omega (arith, h)))

      pub follow_after : (r : Checked (Unit {0})) → 0 < held o → entered (pointed (held o)) ≡ r → granted s g (Follow c f d) ≡ steps.done s g (steps.along (on_spot o) (r >> Ok (steps.placed s g d (Some (pointed (held o))))))
      follow_after r h w =
          follow_on (Ok o) x y z
          ∙ ap (λ (b : Bool). steps.done s g ((b else fault AbsentLink 2 (on_spot o)) >> steps.along (on_spot o) (opening s g (pointed (held o)).page >>= (λ bs. steps.object s g bs (pointed (held o)) >> Ok (steps.placed s g d (Some (pointed (held o)))))))) (lt-ltb 0 (held o) h)
          ∙ ap (λ (q : Checked Graph). steps.done s g (steps.along (on_spot o) q)) (then_later (opening s g (pointed (held o)).page) (λ bs. steps.object s g bs (pointed (held o))) (Ok (steps.placed s g d (Some (pointed (held o))))) ∙ ap (λ (q : Checked (Unit {0})). q >> Ok (steps.placed s g d (Some (pointed (held o))))) w)

module _ {S V : Type 0} {stores : StoreGhosts S} {policies : PolicyGhosts V} (few : (x : S) → length (stores.pages x) ≤ 1024) (whole : (x : S) (n : ℕ) → Whole (page_at (stores.pages x) n).content)
    (s : Service S V stores policies)
  where
    -- a cursor is set after the openings
    module _ (u : Service S V stores policies) (graph : graph_of u ≡ graph_of s) (kept : Kept s u) (d : ℕ) (v : Option Position) (call : Call) (h : granted (setting_of s) (graph_of s) call ≡ Ok (Done, steps.placed (setting_of s) (graph_of s) d v)) where
      placed_graph : graph_at u.pool (set u.cursors d v) ≡ steps.placed (setting_of s) (graph_of s) d v
      placed_graph = ap (λ (g : Graph). record { pages = g.pages; cursors = set g.cursors d v }) graph

      pub stand_placed : Standing (types u.pool.catalogue) (graph_at u.pool (set u.cursors d v))
      stand_placed =
          subst (λ (k : ClosedCatalogue). Standing (types k) (graph_at u.pool (set u.cursors d v))) (sym kept.catalogue)
          (subst (λ (g : Graph). Standing (setting_of s).types g) (sym placed_graph) (stand_granted few whole s call Done (steps.placed (setting_of s) (graph_of s) d v) h))

      pub placed : (t : Service S V stores policies) → t.pool ≡ u.pool → t.cursors ≡ set u.cursors d v → Moves (openings.Opens (setting_of s) (graph_of s) call) s.cursors s.pool u.pool → Shown (owners t) call (Ok Done) (Ok Done) → Did s t call (Ok Done)
      placed t pool cursors path shows =
          grants few whole s call t
          (subst (λ (q : Pool S V stores policies). (q.catalogue ≡ s.pool.catalogue) × (q.table.slots ≡ s.pool.table.slots) × (q.count ≡ s.pool.count) → Kept s t) pool (λ x. record { catalogue = x.0; addresses = x.1; frames = x.2 }) (kept.catalogue, kept.addresses, kept.frames))
          Done (steps.placed (setting_of s) (graph_of s) d v) (Ok Done) h
          (ap (λ (q : Pool S V stores policies). graph_at q t.cursors) pool ∙ ap (λ (cs : List (Option Position)). graph_at u.pool cs) cursors ∙ placed_graph)
          (subst (λ (q : Pool S V stores policies). Moves (openings.Opens (setting_of s) (graph_of s) call) s.cursors s.pool q) (sym pool) path)
          shows

    module _ (t : Service S V stores policies) (c n k j : ℕ) (cell : j ≡ first k) (kept : Kept s t) (known : c ≤ 15) (page : steps.page (setting_of s) (graph_of s) n ≡ Ok tt) (there : is_page (graph_of s).pages n ≡ true) (r : Checked (Unit {0})) (w : Entered s t (position n j) r) where
      at_first : position n j ≡ position n (first k)
      at_first = ap (λ x. position n x) cell

      chain : granted (setting_of s) (graph_of s) (Stand c n k) ≡ steps.done (setting_of s) (graph_of s) (r >> Ok (steps.placed (setting_of s) (graph_of s) c (Some (position n (first k)))))
      chain =
          stand_after (setting_of s) (graph_of s) c n k r (cursor_known c known) page
          (ap (λ (at : Position). opening (setting_of s) (graph_of s) at.page >>= (λ bs. steps.object (setting_of s) (graph_of s) bs at)) (sym at_first) ∙ sym w.answer)

      stand_path : Moves (openings.Opens (setting_of s) (graph_of s) (Stand c n k)) s.cursors s.pool t.pool
      stand_path = moves_to _ (λ m e. subst (λ x. openings.Opens (setting_of s) (graph_of s) (Stand c n k) x) (sym e) (openings.stand c n k known there)) w.moves

      pub not_stood : (e : Fault) → r ≡ Err e → Did s t (Stand c n k) (Err e)
      not_stood e is =
          refuses few whole s (Stand c n k) t kept e w.graph stand_path
          (chain ∙ ap (λ (q : Checked (Unit {0})). steps.done (setting_of s) (graph_of s) (q >> Ok (steps.placed (setting_of s) (graph_of s) c (Some (position n (first k)))))) is)

      module _ (is : r ≡ Ok tt) where
        abbrev at : Position
        at = position n (first k)

        done_is : granted (setting_of s) (graph_of s) (Stand c n k) ≡ Ok (Done, steps.placed (setting_of s) (graph_of s) c (Some at))
        done_is = chain ∙ ap (λ (q : Checked (Unit {0})). steps.done (setting_of s) (graph_of s) (q >> Ok (steps.placed (setting_of s) (graph_of s) c (Some at)))) is

        put_is : set t.cursors c (Some (position n j)) ≡ set t.cursors c (Some at)
        put_is = ap (λ (x : Position). set t.cursors c (Some x)) at_first

        pub stand_stood : Standing (types t.pool.catalogue) (graph_at t.pool (set t.cursors c (Some (position n j))))
        stand_stood =
            subst (λ (cs : List (Option Position)). Standing (types t.pool.catalogue) (graph_at t.pool cs)) (sym put_is)
            (stand_placed t w.graph kept c (Some at) (Stand c n k) done_is)

        pub stand_covered : Covers t.pool.table.slot_of (on_cursor (set t.cursors c (Some (position n j))))
        stand_covered = covers_put t.pool.table.slot_of t.cursors c (position n j) t.covered (subst (λ (q : Checked (Unit {0})). IfOk q (λ _. 0 < get_or t.pool.table.slot_of n 0)) is w.there)

        pub stands : (t' : Service S V stores policies) → t'.pool ≡ t.pool → t'.cursors ≡ set t.cursors c (Some (position n j)) → Did s t' (Stand c n k) (Ok Done)
        stands t' pool cursors = placed t w.graph kept c (Some at) (Stand c n k) done_is t' pool (cursors ∙ put_is) stand_path refl

    module _ (u : Service S V stores policies) (c f d : ℕ) (kept : Kept s u) (cursors : u.cursors ≡ s.cursors) (known : c ≤ 15) (known' : d ≤ 15) where
      op : (x : Position) → openings.On (graph_of s) c x → openings.Opens (setting_of s) (graph_of s) (Follow c f d) x.page
      op x on = openings.follow c f d x on known'

      pub no_field : (e : Fault) → Reached s u c f true (Err e) → Did s u (Follow c f d) (Err e)
      no_field e w = refused_field few whole s u c f true kept known (Follow c f d) op e w (follow_field (setting_of s) (graph_of s) c f d e (cursor_known c known) (cursor_known d known'))

      module _ (o : Spot) (w : Reached s u c f true (Ok o)) where
        abbrev from : steps.Spot
        from = spot_of u f o

        is : steps.link_field (setting_of s) (graph_of s) c f ≡ Ok from
        is = field_is few whole s u c f true kept known o w

        path_to : Moves (openings.Opens (setting_of s) (graph_of s) (Follow c f d)) s.cursors s.pool u.pool
        path_to = path few whole s u c f true kept known (Follow c f d) op (Ok o) w

        pub absent : (e : Fault) → e ≡ fault AbsentLink 2 (on_spot from) → held from ≡ 0 → Did s u (Follow c f d) (Err e)
        absent e eq zero =
            refuses few whole s (Follow c f d) u kept e w.graph path_to
            (follow_absent (setting_of s) (graph_of s) c f d from (cursor_known c known) (cursor_known d known') is zero ∙ ap (λ (x : Fault). Err x) (sym eq))

        module _ (x : ℕ) (eq : x ≡ held from) (some : 0 < x) where
          pub target_page : is_page (graph_of u).pages (x / 64) ≡ true
          target_page =
              let l : is_link (length (stores.pages u.pool.store)) x ≡ true = ap (is_link (length (stores.pages u.pool.store))) eq ∙ link_is few whole s u c f true kept known o w refl in
              ⊎_elim
              (λ (z : eqb x 0 ≡ true). absurd (omega (arith, eqb-true x 0 z, some)))
              (λ (z : is_long_pointer (length (stores.pages u.pool.store)) x ≡ true).
              let a = and_parts (ltb 0 (x / 64)) _ z in
              ap (λ m. ltb 0 (x / 64) && leb (x / 64) m) (as_many few u.pool) ∙ and_from (ltb 0 (x / 64)) _ a.0 (and_parts (leb (x / 64) (length (stores.pages u.pool.store))) _ a.1).0)
              (or_cases (eqb x 0) (is_long_pointer (length (stores.pages u.pool.store)) x) l)

          module _ (t : Service S V stores policies) (kept' : Kept u t) (r : Checked (Unit {0})) (w' : Entered u t (pointed x) r) where
            same : (opening (setting_of s) (graph_of s) (pointed (held from)).page >>= (λ bs. steps.object (setting_of s) (graph_of s) bs (pointed (held from)))) ≡ r
            same =
                ap (λ y. opening (setting_of s) (graph_of s) (pointed y).page >>= (λ bs. steps.object (setting_of s) (graph_of s) bs (pointed y))) (sym eq)
                ∙ ap (λ (h : Graph). opening (setting_of s) h (pointed x).page >>= (λ bs. steps.object (setting_of s) h bs (pointed x))) (sym w.graph)
                ∙ ap (λ (h : Setting). opening h (graph_of u) (pointed x).page >>= (λ bs. steps.object h (graph_of u) bs (pointed x))) (sym (same_setting s u kept))
                ∙ sym w'.answer

            there : 0 < held from
            there = omega (arith, some, eq)

            chain_on : granted (setting_of s) (graph_of s) (Follow c f d) ≡ steps.done (setting_of s) (graph_of s) (steps.along (on_spot from) (r >> Ok (steps.placed (setting_of s) (graph_of s) d (Some (pointed (held from))))))
            chain_on = follow_after (setting_of s) (graph_of s) c f d from (cursor_known c known) (cursor_known d known') is r there same

            path_on : Moves (openings.Opens (setting_of s) (graph_of s) (Follow c f d)) s.cursors s.pool t.pool
            path_on =
                moves_on path_to
                (subst (λ (cs : List (Option Position)). Moves (openings.Opens (setting_of s) (graph_of s) (Follow c f d)) cs u.pool t.pool) cursors
                (moves_to _ (λ m e. subst (λ y. openings.Opens (setting_of s) (graph_of s) (Follow c f d) y) (sym (e ∙ ap (λ y. y / 64) eq)) (openings.follow_on c f d from known known' is there)) w'.moves))

            pub not_followed : (e e' : Fault) → r ≡ Err e → e' ≡ via (on_spot from) e → Did s t (Follow c f d) (Err e')
            not_followed e e' h z =
                refuses few whole s (Follow c f d) t (kept_on s u t kept kept') e' (w'.graph ∙ w.graph) path_on
                (chain_on ∙ ap (λ (q : Checked (Unit {0})). steps.done (setting_of s) (graph_of s) (steps.along (on_spot from) (q >> Ok (steps.placed (setting_of s) (graph_of s) d (Some (pointed (held from))))))) h ∙ ap (λ (y : Fault). Err y) (sym z))

            module _ (h : r ≡ Ok tt) where
              followed : granted (setting_of s) (graph_of s) (Follow c f d) ≡ Ok (Done, steps.placed (setting_of s) (graph_of s) d (Some (pointed (held from))))
              followed = chain_on ∙ ap (λ (q : Checked (Unit {0})). steps.done (setting_of s) (graph_of s) (steps.along (on_spot from) (q >> Ok (steps.placed (setting_of s) (graph_of s) d (Some (pointed (held from))))))) h

              put_on : set t.cursors d (Some (pointed x)) ≡ set t.cursors d (Some (pointed (held from)))
              put_on = ap (λ y. set t.cursors d (Some (pointed y))) eq

              pub follow_stood : Standing (types t.pool.catalogue) (graph_at t.pool (set t.cursors d (Some (pointed x))))
              follow_stood =
                  subst (λ (cs : List (Option Position)). Standing (types t.pool.catalogue) (graph_at t.pool cs)) (sym put_on)
                  (stand_placed t (w'.graph ∙ w.graph) (kept_on s u t kept kept') d (Some (pointed (held from))) (Follow c f d) followed)

              pub follow_covered : Covers t.pool.table.slot_of (on_cursor (set t.cursors d (Some (pointed x))))
              follow_covered = covers_put t.pool.table.slot_of t.cursors d (pointed x) t.covered (subst (λ (q : Checked (Unit {0})). IfOk q (λ _. 0 < get_or t.pool.table.slot_of (x / 64) 0)) h w'.there)

              pub follows : (t' : Service S V stores policies) → t'.pool ≡ t.pool → t'.cursors ≡ set t.cursors d (Some (pointed x)) → Did s t' (Follow c f d) (Ok Done)
              follows t' pool cs = placed t (w'.graph ∙ w.graph) (kept_on s u t kept kept') d (Some (pointed (held from))) (Follow c f d) followed t' pool (cs ∙ put_on) path_on refl
