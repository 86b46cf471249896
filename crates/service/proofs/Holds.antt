-- What is so of a service. Assumes nothing.
use Rattle.std.proofs.Common.{◌≡◌, ℕ, zero, suc, ◌<◌, ◌≤◌, true, eqb, ◌⊎◌, List, [], ◌∷◌, length, get_or, set, Some, None, Option, sym, refl, ap, ◌∙◌, subst, inl, inr, ⊎_elim, arith, length-take}
use Rattle.std.proofs.lemmas.Bool.{eq-eqb, or_left, or_right, or_cases, eqb-true}
use Rattle.page.specs.Types.{types}
use Rattle.page.specs.Walks.{links_to}
use Rattle.page.specs.declared.catalogue.ClosedCatalogue.{ClosedCatalogue}
use Rattle.page.specs.declared.descriptor.Descriptor.{Descriptor}
use Rattle.frame.specs.Links.{swizzled}
use Rattle.frame.specs.declared.frame.Frame.{Frame}
use Rattle.store.specs.Pages.{Content, Page, Whole, page_at}
use Rattle.stands.specs.Frames.{HasAt, Lacks, long_bytes}
use Rattle.stands.proofs.Courses.{shown}
use Rattle.stands.proofs.Layers.{holder, none_some, some_inj}
use Rattle.page.specs.declared.link.Position.{Position}
use Rattle.graph.specs.Graphs.{Graph, on_cursor}
use Rattle.graph.specs.Laws.{LawfulPage}
use Rattle.graph.specs.Standing.{Limits, OnObjects}
use Rattle.graph.specs.Steps.{starts_at}
use Rattle.store.specs.Rules.{held_by}
use Rattle.service.specs.Graphing.{bytes_at, Standing}
use Rattle.pool.specs.Pools.{stood_for}
use Rattle.pool.specs.declared.pool.Pool.{Pool}
use Rattle.pool.proofs.Opens.{cells_long, length_long, needed_at}
use Rattle.pool.proofs.Enters.{is_there}
use Rattle.service.specs.Serving.{setting_of, graph_of, Holding}
use Rattle.service.specs.declared.service.Service.{Service}
use Rattle.store.specs.declared.Store.{Ghosts as StoreGhosts}
use Rattle.policy.specs.declared.Policy.{Ghosts as PolicyGhosts}

-- a cursor's page is on a cursor
pub on_at : (cs : List (Option Position)) (c : ℕ) (at : Position) → get_or cs c None ≡ Some at → on_cursor cs at.page ≡ true
on_at [] c at e = absurd (none_some {X = Position} None at refl e)
on_at (None ∷ cs) zero at e = absurd (none_some {X = Position} None at refl e)
on_at (Some x ∷ cs) zero at e = or_left (eqb at.page x.page) _ (eq-eqb at.page x.page (ap (λ (y : Position). y.page) (some_inj (Some x) at x e refl)))
on_at (None ∷ cs) (suc c) at e = on_at cs c at e
on_at (Some x ∷ cs) (suc c) at e = or_right (eqb at.page x.page) _ (on_at cs c at e)

on_cons : (x : Option Position) (cs ds : List (Option Position)) (m : ℕ) → (on_cursor cs m ≡ true → on_cursor ds m ≡ true) → on_cursor (x ∷ cs) m ≡ true → on_cursor (x ∷ ds) m ≡ true
on_cons None cs ds m f h = f h
on_cons (Some at) cs ds m f h =
    ⊎_elim (λ (e : eqb m at.page ≡ true). or_left (eqb m at.page) _ e) (λ (e : on_cursor cs m ≡ true). or_right (eqb m at.page) _ (f e)) (or_cases (eqb m at.page) (on_cursor cs m) h)

on_later : (x : Option Position) (cs : List (Option Position)) (m : ℕ) → on_cursor cs m ≡ true → on_cursor (x ∷ cs) m ≡ true
on_later None cs m h = h
on_later (Some at) cs m h = or_right (eqb m at.page) _ h

-- a cursor was emptied
pub on_left : (cs : List (Option Position)) (c m : ℕ) → on_cursor (set cs c None) m ≡ true → on_cursor cs m ≡ true
on_left [] c m h = h
on_left (x ∷ cs) zero m h = on_later x cs m h
on_left (x ∷ cs) (suc c) m h = on_cons x (set cs c None) cs m (on_left cs c m) h

-- a cursor was put on an object
pub on_put : (cs : List (Option Position)) (c m : ℕ) (at : Position) → on_cursor (set cs c (Some at)) m ≡ true → (m ≡ at.page) ⊎ (on_cursor cs m ≡ true)
on_put [] c m at h = inr h
on_put (x ∷ cs) zero m at h =
    ⊎_elim (λ (e : eqb m at.page ≡ true). inl (eqb-true m at.page e)) (λ (e : on_cursor cs m ≡ true). inr (on_later x cs m e)) (or_cases (eqb m at.page) (on_cursor cs m) h)
on_put (None ∷ cs) (suc c) m at h = on_put cs c m at h
on_put (Some x ∷ cs) (suc c) m at h =
    ⊎_elim
    (λ (e : eqb m x.page ≡ true). inr (or_left (eqb m x.page) _ e))
    (λ (e : on_cursor (set cs c (Some at)) m ≡ true). ⊎_elim (λ (d : m ≡ at.page). inl d) (λ (d : on_cursor cs m ≡ true). inr (or_right (eqb m x.page) _ d)) (on_put cs c m at e))
    (or_cases (eqb m x.page) (on_cursor (set cs c (Some at)) m) h)

pub few_types : (k : ClosedCatalogue) → length (types k) ≤ 32
few_types k = omega (arith, length-take k.table.count k.table.descriptors, k.table.long)

-- a cursor stands on an object, with its page's bytes named
pub on_objects : (ts : List Descriptor) (g : Graph) → Standing ts g → OnObjects ts g
on_objects ts g h c at e = let o = h c at e in record { held = bytes_at g.pages at.page; lawful = o.lawful; begins = o.begins }

pub standing : (ts : List Descriptor) (g : Graph) → OnObjects ts g → Standing ts g
standing ts g h c at e =
    let o = h c at e in
    let b : bytes_at g.pages at.page ≡ o.held = ap (λ (x : Content). held_by x []) o.lawful.reads in
    record { lawful = subst (λ (bs : List ℕ). LawfulPage ts g.pages at.page bs) (sym b) o.lawful; begins = ap (λ (bs : List ℕ). starts_at ts bs at.cell) b ∙ o.begins }

module _ {S V : Type 0} {stores : StoreGhosts S} {policies : PolicyGhosts V} (few : (x : S) → length (stores.pages x) ≤ 1024) where
  module _ (q : Pool S V stores policies) where
    pub as_many : length (stood_for q) ≡ length (stores.pages q.store)
    as_many = (shown (types q.catalogue) q.table.slot_of q.table.page_of (stores.pages q.store) q.frames q.tied.sound).many

    -- a page in a frame has a slot
    pub framed_slot : (i : ℕ) (f : Frame) → HasAt q.frames i f → 0 < get_or q.table.slot_of f.page 0
    framed_slot i f h =
        let w = q.tied.sound.laid.within i f h in
        let high : f.page ≤ 1024 = omega (arith, w.1, few q.store) in
        q.covered f.page w.0 high (needed_at q.frames i f.page f h (q.tied.needs i f h f.page w.0 high ∙ or_left (eqb f.page f.page) _ (eq-eqb f.page f.page refl)))

    pub pages_whole : ((x : S) (n : ℕ) → Whole (page_at (stores.pages x) n).content) → (n : ℕ) → Whole (page_at (stood_for q) n).content
    pages_whole whole n =
        let ts = types q.catalogue in
        let page = q.table.page_of in
        let sh = shown ts q.table.slot_of page (stores.pages q.store) q.frames q.tied.sound in
        ⊎_elim
        (λ w. let f = w.1.0 in
        subst (λ (m : ℕ). Whole (page_at (stood_for q) m).content) w.1.1.1
        (subst (λ (x : Content). Whole x) (sym (sh.held w.0 f w.1.1.0)) (length_long ts page f)))
        (λ (l : Lacks q.frames n). subst (λ (x : Page). Whole x.content) (sym (sh.free n l)) (whole q.store n))
        (holder q.frames n)

  module _ (s : Service S V stores policies) where
    pub limits : ((x : S) (n : ℕ) → Whole (page_at (stores.pages x) n).content) → Limits (setting_of s) (graph_of s).pages
    limits whole = record {
      types = few_types s.pool.catalogue;
      pages = omega (arith, as_many s.pool, few s.pool.store);
      whole = pages_whole s.pool whole;
    }

    pub holding : Holding s
    holding = record {
      frames = λ i f h. (
          let ts = types s.pool.catalogue in
          let slots = s.pool.table.slot_of in
          let page = s.pool.table.page_of in
          let w = s.pool.tied.sound.frames i f h in
          let e = cells_long ts page f s.pool.table.within.1.1.0 in
          record {
            held = long_bytes ts page f;
            page = (shown ts slots page (stores.pages s.pool.store) s.pool.frames s.pool.tied.sound).held i f h;
            cells = w.form ∙ ap (λ (xs : List ℕ). swizzled ts slots xs) (sym e);
            own = framed_slot s.pool i f h;
            links = λ m l. w.served m (ap (λ (xs : List ℕ). links_to ts xs m) (sym e) ∙ l);
          });
      cursors = λ c at e. (
          let o = on_objects (setting_of s).types (graph_of s) s.stand c at e in
          let r = is_there (graph_of s).pages at.page o.held o.lawful.reads in
          s.covered at.page r.0 (omega (arith, r.1, as_many s.pool, few s.pool.store)) (on_at s.cursors c at e));
    }
