-- Calls that read a field. Assumes nothing.
use Rattle.std.proofs.Common.{◌≡◌, ℕ, ◌+◌, ◌-◌, ◌*◌, ◌/◌, ◌%◌, ◌<◌, ◌≤◌, Bool, true, false, cond, eqb, leb, List, length, get_or, Some, None, Ok, Err, Option, sym, refl, ap, ◌∙◌, subst, arith}
use Rattle.std.proofs.lemmas.Bool.{le-leb, lt-ltb, ne_eqb, eqb-false}
use Rattle.fault.specs.declared.kinds.Fault.{Fault}
use Rattle.fault.specs.Refusals.{Checked, ◌>>=◌, ◌>>◌}
use Rattle.address.specs.declared.table.AddressTable.{AddressTable}
use Rattle.page.specs.Descriptors.{linked}
use Rattle.page.specs.Form.{field_at, type_at}
use Rattle.page.specs.Links.{is_link}
use Rattle.page.specs.Types.{types}
use Rattle.page.specs.declared.catalogue.ClosedCatalogue.{ClosedCatalogue}
use Rattle.frame.specs.Links.{address}
use Rattle.frame.specs.declared.frame.Frame.{Frame}
use Rattle.store.specs.Pages.{Whole, page_at}
use Rattle.stands.specs.Frames.{long_bytes}
use Rattle.graph.specs.Steps.{Answer}
use Rattle.graph.specs.declared.calls.Call.{Call}
use Rattle.graph.specs.declared.calls.Call.TheVariants.{Read, Target, Glance}
use Rattle.page.specs.declared.link.Position.{Position}
use Rattle.graph.specs.declared.calls.Value.{Value}
use Rattle.graph.specs.declared.calls.Value.TheVariants.{Number, Names}
use Rattle.graph.specs.Graphs.{Graph, Setting}
use Rattle.graph.specs.Openings as openings
use Rattle.graph.specs.Shown.{Shown, InFrame, absent, address as addressed}
use Rattle.graph.specs.Steps as steps
use Rattle.graph.specs.Steps.{starts_at, held, named, granted}
use Rattle.page.specs.Links.{pointed}
use Rattle.graph.proofs.Opens.{spot}
use Rattle.pool.specs.Looking.{owner_of, field_shown}
use Rattle.pool.specs.Opening.{held_bytes}
use Rattle.pool.specs.Pools.{long_of, StartsIn, kind_in}
use Rattle.pool.proofs.Looks.{field_link, field_served}
use Rattle.service.specs.Calls.{Moves, Did}
use Rattle.service.specs.Inner.{asks, bytes_in, spot_of, Reached}
use Rattle.service.specs.Serving.{setting_of, owners, graph_of, Kept}
use Rattle.service.specs.declared.service.Service.{Service}
use Rattle.service.specs.declared.service.reach.Spot.{Spot}
use Rattle.service.proofs.Doing.{moves_to, refuses, grants}
use Rattle.service.proofs.Reach.{as_granted, then_ok, bind_ok, bind_err, else_ok}
use Rattle.store.specs.declared.Store.{Ghosts as StoreGhosts}
use Rattle.policy.specs.declared.Policy.{Ghosts as PolicyGhosts}

pub cursor_known : (c : ℕ) → c ≤ 15 → steps.cursor c ≡ Ok tt
cursor_known c h = else_ok (leb c 15) _ (le-leb c 15 h)

-- a cursor, then a field, then what is told of it
module _ {A : Type 0} (s : Setting) (g : Graph) (v : A → Value) (h : steps.Spot → A) (r : Checked (Unit {0})) (q : Checked steps.Spot) where
  abbrev told : Checked (Value × Graph)
  told = steps.told s g v (r >> (q >>= (λ o. Ok (h o))))

  told_cursor : (e : Fault) → r ≡ Err e → told ≡ Err e
  told_cursor e x = ap (λ (y : Checked (Unit {0})). steps.told s g v (y >> (q >>= (λ o. Ok (h o))))) x

  pub told_field : (e : Fault) → r ≡ Ok tt → q ≡ Err e → told ≡ Err e
  told_field e x y = ap (λ (z : Checked A). steps.told s g v z) (then_ok r (q >>= (λ o. Ok (h o))) tt x ∙ bind_err q (λ o. Ok (h o)) e y)

  pub told_ok : (o : steps.Spot) → r ≡ Ok tt → q ≡ Ok o → told ≡ Ok (v (h o), g)
  told_ok o x y = ap (λ (z : Checked A). steps.told s g v z) (then_ok r (q >>= (λ w. Ok (h w))) tt x ∙ bind_ok q (λ w. Ok (h w)) o y)

-- the calls that tell something of a field
module _ (s : Setting) (g : Graph) (c f : ℕ) where
  pub read_cursor : (e : Fault) → steps.cursor c ≡ Err e → granted s g (Read c f) ≡ Err e
  read_cursor e x = told_cursor s g (λ y. Number y) held (steps.cursor c) (steps.number_field s g c f) e x

  pub target_cursor : (e : Fault) → steps.cursor c ≡ Err e → granted s g (Target c f) ≡ Err e
  target_cursor e x = told_cursor s g (λ y. Names y) (λ o. named (held o)) (steps.cursor c) (steps.link_field s g c f) e x

  pub glance_cursor : (e : Fault) → steps.cursor c ≡ Err e → granted s g (Glance c f) ≡ Err e
  glance_cursor e x = told_cursor s g (λ y. Names y) (λ o. named (held o)) (steps.cursor c) (steps.link_field s g c f) e x

-- the frame's cell for a long pointer
module _ (tab : AddressTable) (y : ℕ) (served : (y ≡ 0 → ⊥) → 0 < get_or tab.slot_of (y / 64) 0) where
  abbrev slot : ℕ
  slot = get_or tab.slot_of (y / 64) 0

  owner_is : 0 < slot → owner_of tab.page_of tab.slots (slot - 1) ≡ Some (y / 64)
  owner_is h =
      let high = tab.within.1.1.1 (y / 64) in
      let up : slot - 1 + 1 ≡ slot = omega (arith, h) in
      let at : get_or tab.page_of (slot - 1 + 1) 0 ≡ y / 64 = ap (λ k. get_or tab.page_of k 0) up ∙ tab.agree.1 (y / 64) h in
      let some : y / 64 ≡ 0 → ⊥ = λ z. (let n = ap (λ k. get_or tab.slot_of k 0) z in omega (arith, n, h, tab.within.0.1)) in
      ap (λ b. cond b (cond (eqb (get_or tab.page_of (slot - 1 + 1) 0) 0) None (Some (get_or tab.page_of (slot - 1 + 1) 0))) None) (lt-ltb (slot - 1) tab.slots (omega (arith, h, high)))
      ∙ ap (λ x. cond (eqb x 0) None (Some x)) at
      ∙ ap (λ b. cond b None (Some (y / 64))) (ne_eqb (y / 64) 0 some)

  by_test : (b : Bool) → eqb y 0 ≡ b → InFrame (owner_of tab.page_of tab.slots) (Names (cond b None (Some (pointed y)))) (cond b 0 (1048512 + 64 * slot + y % 64))
  by_test true e = absent
  by_test false e =
      let h = served (eqb-false y 0 e) in
      addressed (slot - 1) (1048512 + 64 * slot + y % 64) (pointed y) (owner_is h) (omega (arith, h))

  pub in_frame : InFrame (owner_of tab.page_of tab.slots) (Names (named y)) (address tab.slot_of y)
  in_frame = by_test (eqb y 0) refl

module _ {S V : Type 0} {stores : StoreGhosts S} {policies : PolicyGhosts V} (few : (x : S) → length (stores.pages x) ≤ 1024) (whole : (x : S) (n : ℕ) → Whole (page_at (stores.pages x) n).content)
    (s t : Service S V stores policies) (c f : ℕ) (link : Bool) (kept : Kept s t) (known : c ≤ 15)
  where
    -- the call opens the page of the cursor's object
    pub path : (call : Call) → ((x : Position) → openings.On (graph_of s) c x → openings.Opens (setting_of s) (graph_of s) call x.page) → (r : Checked Spot) → Reached s t c f link r → Moves (openings.Opens (setting_of s) (graph_of s) call) s.cursors s.pool t.pool
    path call op r w =
        moves_to (openings.Opens (setting_of s) (graph_of s) call)
        (λ n m. subst (λ k. openings.Opens (setting_of s) (graph_of s) call k) (sym m.1.1) (op m.0 (record { known = known; stands = m.1.0 })))
        w.moves

    module _ (o : Spot) (w : Reached s t c f link (Ok o)) where
      abbrev fr : Frame
      fr = w.there.0.frame

      abbrev bs : List ℕ
      bs = bytes_in t o.frame

      pub long : bs ≡ long_bytes (setting_of t).types t.pool.table.page_of fr
      long = ap (λ (x : Option Frame). held_bytes (setting_of t).types t.pool.table.page_of x) w.there.0.has

      small : f < (type_at (setting_of t).types (long_bytes (setting_of t).types t.pool.table.page_of fr) o.at.cell).size
      small = subst (λ (x : List ℕ). f < (type_at (setting_of t).types x o.at.cell).size) long w.there.1

      -- what the pool tells of the field
      pub told_is : (T : List ℕ → ℕ) (x : ℕ) → ((k : Frame) → StartsIn t.pool o.frame k o.at.cell → f < (kind_in t.pool k o.at.cell).size → x ≡ T (long_of t.pool k)) → x ≡ T bs
      told_is T x told = told fr (record { has = w.there.0.has; begins = w.there.0.begins }) small ∙ ap T (sym long)

      pub field_is : steps.field (setting_of s) (graph_of s) (asks link) c f ≡ Ok (spot_of t f o)
      field_is = sym w.answer

      pub kind : asks link (linked (type_at (setting_of s).types bs o.at.cell) f) ≡ true
      kind = (as_granted (steps.field (setting_of s) (graph_of s) (asks link) c f) (spot_of t f o) (spot (setting_of s) (graph_of s) (asks link) c f) field_is).kind

      kind_after : asks link (linked (type_at (setting_of t).types bs o.at.cell) f) ≡ true
      kind_after = ap (λ (k : ClosedCatalogue). asks link (linked (type_at (types k) bs o.at.cell) f)) kept.catalogue ∙ kind

    -- a link
    module _ (o : Spot) (w : Reached s t c f link (Ok o)) (is : link ≡ true) where
      linked_after : linked (type_at (setting_of t).types (long_bytes (setting_of t).types t.pool.table.page_of w.there.0.frame) o.at.cell) f ≡ true
      linked_after =
          ap (λ (x : List ℕ). linked (type_at (setting_of t).types x o.at.cell) f) (sym (long o w))
          ∙ subst (λ b. asks b (linked (type_at (setting_of t).types (bytes_in t o.frame) o.at.cell) f) ≡ true) is (kind_after o w)

      pub link_is : is_link (length (stores.pages t.pool.store)) (held (spot_of t f o)) ≡ true
      link_is =
          let p = t.pool in
          ap (λ (x : List ℕ). is_link (length (stores.pages p.store)) (field_at x o.at.cell f)) (long o w)
          ∙ field_link p o.frame w.there.0.frame o.at.cell f (record { has = w.there.0.has; begins = w.there.0.begins }) (small o w) linked_after

      pub link_served : (held (spot_of t f o) ≡ 0 → ⊥) → 0 < get_or t.pool.table.slot_of (held (spot_of t f o) / 64) 0
      link_served some =
          let p = t.pool in
          let e = ap (λ (x : List ℕ). field_at x o.at.cell f) (long o w) in
          subst (λ y. 0 < get_or p.table.slot_of (y / 64) 0) (sym e)
          (field_served p o.frame w.there.0.frame o.at.cell f (record { has = w.there.0.has; begins = w.there.0.begins }) (small o w) linked_after (λ z. some (e ∙ z)))

      shown_link : field_shown (setting_of t).types t.pool.table.slot_of (bytes_in t o.frame) o.at.cell f ≡ address t.pool.table.slot_of (held (spot_of t f o))
      shown_link = ap (λ b. cond b (address t.pool.table.slot_of (held (spot_of t f o))) (held (spot_of t f o))) (ap (λ (x : List ℕ). linked (type_at (setting_of t).types x o.at.cell) f) (long o w) ∙ linked_after)

      pub glanced : (x : ℕ) → x ≡ field_shown (setting_of t).types t.pool.table.slot_of (bytes_in t o.frame) o.at.cell f → InFrame (owners t) (Names (named (held (spot_of t f o)))) x
      glanced x e = subst (λ y. InFrame (owners t) (Names (named (held (spot_of t f o)))) y) (sym (e ∙ shown_link)) (in_frame t.pool.table (held (spot_of t f o)) link_served)

    -- refused on the way to the field
    pub refused_field : (call : Call) → ((x : Position) → openings.On (graph_of s) c x → openings.Opens (setting_of s) (graph_of s) call x.page) → (e : Fault) → Reached s t c f link (Err e) → (steps.field (setting_of s) (graph_of s) (asks link) c f ≡ Err e → granted (setting_of s) (graph_of s) call ≡ Err e) → Did s t call (Err e)
    refused_field call op e w h = refuses few whole s call t kept e w.graph (path call op (Err e) w) (h (sym w.answer))

    -- the graph stays
    pub told_field_of : (call : Call) → ((x : Position) → openings.On (graph_of s) c x → openings.Opens (setting_of s) (graph_of s) call x.page) → (r : Checked Spot) → Reached s t c f link r → (v : Value) (a : Answer) → granted (setting_of s) (graph_of s) call ≡ Ok (v, graph_of s) → Shown (owners t) call (Ok v) a → Did s t call a
    told_field_of call op r w v a h shows = grants few whole s call t kept v (graph_of s) a h w.graph (path call op r w) shows
