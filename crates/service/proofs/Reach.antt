-- How a call comes to a field. Assumes nothing.
use Rattle.std.proofs.Common.{◌≡◌, ℕ, ◌<◌, Bool, true, false, not, ltb, eqb, List, get_or, Some, None, Ok, Err, Option, Result, sym, refl, ap, ◌∙◌, subst, arith}
use mathlib.Core.Bool.{beq}
use Rattle.std.specs.Result.{MatchResult, IsErrAnd}
use Rattle.std.proofs.lemmas.Result.{err_from_is_err_and}
use Rattle.std.proofs.lemmas.Bool.{and_from, both_ways, le-leb, lt-ltb, eqb-true, eqb-false}
use Rattle.std.specs.Prelude.{cond, ok_or}
use Rattle.page.specs.Links.{named, pointed, position}
use Rattle.fault.specs.declared.kinds.Cause.TheVariants.{EmptyCursor, NoField, WrongKind}
use Rattle.fault.specs.declared.kinds.Fault.{Fault}
use Rattle.fault.specs.Faults.{nowhere, on_field, fault}
use Rattle.fault.specs.Refusals.{Checked, ◌>>=◌, ◌>>◌, ◌else◌, ◌otherwise◌}
use Rattle.page.specs.Descriptors.{linked}
use Rattle.page.specs.Form.{type_at}
use Rattle.page.specs.Types.{types}
use Rattle.page.specs.declared.catalogue.ClosedCatalogue.{ClosedCatalogue}
use Rattle.page.specs.declared.descriptor.Descriptor.{Descriptor}
use Rattle.frame.specs.declared.frame.Frame.{Frame}
use Rattle.store.specs.Pages.{is_page}
use Rattle.stands.specs.Frames.{long_bytes}
use Rattle.page.specs.declared.link.Position.{Position}
use Rattle.graph.specs.Graphs.{opening}
use Rattle.graph.specs.Steps as steps
use Rattle.graph.specs.Steps.{starts_at}
use Rattle.graph.proofs.Grants.{Grants, given}
use Rattle.graph.proofs.Kept.{begins_in}
use Rattle.graph.proofs.Opens.{opens as opens-lawful}
use Rattle.pool.specs.Opening.{held_bytes}
use Rattle.pool.specs.Pools.{StartsIn, kind_in}
use Rattle.pool.proofs.Enters.{is_there}
use Rattle.service.specs.Calls.{Moves, rests, opens, link_of}
use Rattle.std.specs.Option.{MatchOption, IsSomeAnd}
use Rattle.service.specs.Inner.{asks, bytes_in, Object, Came, Reached}
use Rattle.service.proofs.Holds.{on_objects}
use Rattle.service.specs.Serving.{setting_of, graph_of, Kept}
use Rattle.service.specs.declared.service.Service.{Service}
use Rattle.store.specs.declared.Store.{Ghosts as StoreGhosts}
use Rattle.policy.specs.declared.Policy.{Ghosts as PolicyGhosts}

-- a chain of refusals
pub bind_ok : {A B : Type 0} (r : Checked A) (f : A → Checked B) (x : A) → r ≡ Ok x → (r >>= f) ≡ f x
bind_ok r f x e = ap (λ y. y >>= f) e

pub bind_err : {A B : Type 0} (r : Checked A) (f : A → Checked B) (e : Fault) → r ≡ Err e → (r >>= f) ≡ Err e
bind_err r f e h = ap (λ y. y >>= f) h

pub then_ok : {A B : Type 0} (r : Checked A) (q : Checked B) (x : A) → r ≡ Ok x → (r >> q) ≡ q
then_ok r q x e = ap (λ y. y >> q) e

pub then_err : {A B : Type 0} (r : Checked A) (q : Checked B) (e : Fault) → r ≡ Err e → (r >> q) ≡ Err e
then_err r q e h = ap (λ y. y >> q) h

pub else_ok : (b : Bool) (e : Fault) → b ≡ true → (b else e) ≡ Ok tt
else_ok b e h = ap (λ y. y else e) h

pub else_err : (b : Bool) (e : Fault) → b ≡ false → (b else e) ≡ Err e
else_err b e h = ap (λ y. y else e) h

pub else_yes : (b : Bool) (e : Fault) → (b else e) ≡ Ok tt → b ≡ true
else_yes true e h = refl
else_yes false e h = let z : ◌≡◌ {A = ℕ} 0 1 = cc in absurd (omega arith)

pub ok_err : {A : Type 0} (x : A) (e : Fault) → ◌≡◌ {A = Checked A} (Err e) (Ok x) → ⊥
ok_err x e h = let z : ◌≡◌ {A = ℕ} 0 1 = cc in omega arith

-- a result whose fault is another's, changed by h
pub err_mapped : {T E D : Type 0} (r : Result T E) (q : Result T D) (R : E → D → Type 0) (h : E → D) (d : D) → q ≡ Err d → MatchResult r (λ x. q ≡ Ok x) (λ e. IsErrAnd q (R e)) → ((e : E) (y : D) → R e y → y ≡ h e) → (e : E) × ((r ≡ Err e) × (d ≡ h e))
err_mapped (Ok x) q R h d is m k = let z : ◌≡◌ {A = ℕ} 0 1 = cc in absurd (omega arith)
err_mapped (Err e) q R h d is m k =
    let w = err_from_is_err_and q m in
    let same : d ≡ w.0 = let e1 = w.1 in cc in
    (e, (refl, same ∙ k e w.0 w.2))

pub ok_mapped : {T E D : Type 0} (r : Result T E) (q : Result T D) (R : E → D → Type 0) (x : T) → q ≡ Ok x → MatchResult r (λ y. q ≡ Ok y) (λ e. IsErrAnd q (R e)) → r ≡ Ok x
ok_mapped (Ok y) q R x is m = let same : y ≡ x = cc in ap Ok same
ok_mapped (Err e) q R x is m =
    let w = err_from_is_err_and q m in
    let e1 = w.1 in
    let z : ◌≡◌ {A = ℕ} 0 1 = cc in absurd (omega arith)

-- granted as the graph grants it
pub as_granted : {A : Type 0} {P : A → Type 0} (r : Checked A) (x : A) → Grants P r → r ≡ Ok x → P x
as_granted {A} {P} (Ok y) x (given h) e = let z : y ≡ x = cc in subst P z h
as_granted (Err y) x g e = absurd (ok_err x y e)

-- a field of the other kind, and one of the kind that is asked for
pub other_kind : (b link : Bool) → not (beq b link) ≡ true → asks link b ≡ false
other_kind true true h = absurd (both_ways (not (beq true true)) refl h)
other_kind true false h = refl
other_kind false true h = refl
other_kind false false h = absurd (both_ways (not (beq false false)) refl h)

pub right_kind : (b link : Bool) → not (beq b link) ≡ false → asks link b ≡ true
right_kind true true h = refl
right_kind true false h = absurd (both_ways (not (beq true false)) h refl)
right_kind false true h = absurd (both_ways (not (beq false true)) h refl)
right_kind false false h = refl

-- where a cursor stands
pub stood : (o : Option Position) (e : Fault) (at : Position) → (o otherwise e) ≡ Ok at → o ≡ Some at
stood None e at h = absurd (ok_err at e h)
stood (Some x) e at h = let z : x ≡ at = cc in ap (λ (y : Position). Some y) z

module _ {S V : Type 0} {stores : StoreGhosts S} {policies : PolicyGhosts V} (s : Service S V stores policies) (c : ℕ) where
  -- a cursor's page is there
  pub cursor_page : (at : Position) → get_or s.cursors c None ≡ Some at → is_page (graph_of s).pages at.page ≡ true
  cursor_page at e =
      let o = on_objects (setting_of s).types (graph_of s) s.stand c at e in
      let r = is_there (graph_of s).pages at.page o.held o.lawful.reads in
      and_from (ltb 0 at.page) _ (lt-ltb 0 at.page r.0) (le-leb at.page _ r.1)

  module _ (f : ℕ) (link : Bool) where
    abbrev rest : List ℕ → Position → Checked steps.Spot
    rest bs at =
        (ltb f (type_at (setting_of s).types bs at.cell).size else fault NoField 2 (on_field at.page at.cell f))
        >> ((asks link (linked (type_at (setting_of s).types bs at.cell) f) else fault WrongKind 2 (on_field at.page at.cell f)) >> Ok (record { page = at.page; cell = at.cell; field = f; bytes = bs }))

    chain : (at : Position) → get_or s.cursors c None ≡ Some at → steps.field (setting_of s) (graph_of s) (asks link) c f ≡ (opening (setting_of s) (graph_of s) at.page >>= (λ bs. rest bs at))
    chain at e = bind_ok (get_or s.cursors c None otherwise fault EmptyCursor 2 nowhere) (λ x. opening (setting_of s) (graph_of s) x.page >>= (λ bs. rest bs x)) at (ap (λ o. o otherwise fault EmptyCursor 2 nowhere) e)

    pub no_cursor : (e : Fault) → steps.stands_on (setting_of s) (graph_of s) c ≡ Err e → Reached s s c f link (Err e)
    no_cursor e h = record {
      graph = refl;
      answer = sym (bind_err (get_or s.cursors c None otherwise fault EmptyCursor 2 nowhere) (λ x. opening (setting_of s) (graph_of s) x.page >>= (λ bs. rest bs x)) e h);
      there = tt;
      moves = rests s.pool;
    }

    module _ (t : Service S V stores policies) (at : Position) (at_c : get_or s.cursors c None ≡ Some at) where
      abbrev May : ℕ → Type 0
      May n = (x : Position) × ((get_or s.cursors c None ≡ Some x) × (n ≡ x.page))

      moved : (r : Checked ℕ) → Came s t at.page r → Moves May s.cursors s.pool t.pool
      moved r w = opens at.page s.pool t.pool t.pool w.standing r (at, (at_c, refl)) w.agree w.course (rests t.pool)

      pub not_opened : (e : Fault) → Came s t at.page (Err e) → Reached s t c f link (Err e)
      not_opened e w = record {
        graph = w.graph;
        answer = sym (chain at at_c ∙ bind_err (opening (setting_of s) (graph_of s) at.page) (λ bs. rest bs at) e (sym w.answer));
        there = tt;
        moves = moved (Err e) w;
      }

      module _ (kept : Kept s t) (i : ℕ) (w : Came s t at.page (Ok i)) where
        abbrev bs : List ℕ
        bs = bytes_in t i

        is_open : opening (setting_of s) (graph_of s) at.page ≡ Ok bs
        is_open = sym w.answer

        begins_before : starts_at (setting_of s).types bs at.cell ≡ true
        begins_before = begins_in (setting_of s).types (graph_of s).pages at bs (on_objects (setting_of s).types (graph_of s) s.stand c at at_c) (as_granted (opening (setting_of s) (graph_of s) at.page) bs (opens-lawful (setting_of s) (graph_of s) at.page) is_open)

        begins_after : starts_at (setting_of t).types bs at.cell ≡ true
        begins_after = ap (λ (k : ClosedCatalogue). starts_at (types k) bs at.cell) kept.catalogue ∙ begins_before

        long : bs ≡ long_bytes (setting_of t).types t.pool.table.page_of w.there.0
        long = ap (λ (o : Option Frame). held_bytes (setting_of t).types t.pool.table.page_of o) w.there.1.0

        pub object : Object t i at.page at.cell
        object = record {
          frame = w.there.0;
          has = w.there.1.0;
          page = w.there.1.1;
          begins = ap (λ (x : List ℕ). starts_at (setting_of t).types x at.cell) (sym long) ∙ begins_after;
        }

        -- the type of the object, as the pool tells it
        module _ (d : Descriptor) (told : (fr : Frame) → StartsIn t.pool i fr at.cell → d ≡ kind_in t.pool fr at.cell) where
          kind_after : d ≡ type_at (setting_of t).types bs at.cell
          unfolding object
          kind_after = told w.there.0 (record { has = w.there.1.0; begins = object.begins }) ∙ ap (λ (x : List ℕ). type_at (setting_of t).types x at.cell) (sym long)

          kind_is : d ≡ type_at (setting_of s).types bs at.cell
          kind_is = kind_after ∙ ap (λ (k : ClosedCatalogue). type_at (types k) bs at.cell) kept.catalogue

          goes_on : steps.field (setting_of s) (graph_of s) (asks link) c f ≡ ((ltb f d.size else fault NoField 2 (on_field at.page at.cell f)) >> ((asks link (linked d f) else fault WrongKind 2 (on_field at.page at.cell f)) >> Ok (record { page = at.page; cell = at.cell; field = f; bytes = bs })))
          goes_on =
              chain at at_c ∙ bind_ok (opening (setting_of s) (graph_of s) at.page) (λ x. rest x at) bs is_open
              ∙ ap (λ (k : Descriptor). (ltb f k.size else fault NoField 2 (on_field at.page at.cell f)) >> ((asks link (linked k f) else fault WrongKind 2 (on_field at.page at.cell f)) >> Ok (record { page = at.page; cell = at.cell; field = f; bytes = bs }))) (sym kind_is)

          turned : (e : Fault) → steps.field (setting_of s) (graph_of s) (asks link) c f ≡ Err e → Reached s t c f link (Err e)
          turned e h = record { graph = w.graph; answer = sym h; there = tt; moves = moved (Ok i) w }

          pub no_field : (e : Fault) → e ≡ fault NoField 2 (on_field at.page at.cell f) → ltb f d.size ≡ false → Reached s t c f link (Err e)
          no_field e is h = turned e (goes_on ∙ then_err _ _ _ (else_err (ltb f d.size) _ h) ∙ ap (λ (x : Fault). Err x) (sym is))

          pub wrong_kind : (e : Fault) → e ≡ fault WrongKind 2 (on_field at.page at.cell f) → ltb f d.size ≡ true → asks link (linked d f) ≡ false → Reached s t c f link (Err e)
          wrong_kind e is h l = turned e (goes_on ∙ then_ok _ _ tt (else_ok (ltb f d.size) _ h) ∙ then_err _ _ _ (else_err (asks link (linked d f)) _ l) ∙ ap (λ (x : Fault). Err x) (sym is))

          pub there_is : f < d.size → asks link (linked d f) ≡ true → Reached s t c f link (Ok (record { frame = i; at = at }))
          there_is h l = record {
            graph = w.graph;
            answer = sym (goes_on ∙ then_ok _ _ tt (else_ok (ltb f d.size) _ (lt-ltb f d.size h)) ∙ then_ok _ _ tt (else_ok (asks link (linked d f)) _ l));
            there = (object, subst (λ (k : Descriptor). f < k.size) kind_after h);
            moves = moved (Ok i) w;
          }

-- the link that is there, and the one that is absent
pub there : (x : ℕ) (e : Fault) (at : Position) → ok_or (named x) e ≡ Ok at → (0 < x) × (at ≡ pointed x)
there x e at q =
    of (eqb x 0) refl q
  where
    of : (b : Bool) → (eqb x 0) ≡ b → ok_or (cond b None (Some (pointed x))) e ≡ Ok at → (0 < x) × (at ≡ pointed x)
    of true h q = absurd (ok_err at e q)
    of false h q = let same : at ≡ pointed x = cc in (let z = eqb-false x 0 h in omega (arith, z), same)

pub absent_link : (x : ℕ) (e d : Fault) → ok_or (named x) e ≡ Err d → (x ≡ 0) × (d ≡ e)
absent_link x e d q =
    of (eqb x 0) refl q
  where
    of : (b : Bool) → (eqb x 0) ≡ b → ok_or (cond b None (Some (pointed x))) e ≡ Err d → (x ≡ 0) × (d ≡ e)
    of true h q = let same : d ≡ e = cc in (eqb-true x 0 h, same)
    of false h q = absurd (ok_err (pointed x) d (sym q))

-- the page and cell of a link, told as a pair
pub pair_of : (o : Option Position) (r : Option (ℕ × ℕ)) (R : Position → ℕ × ℕ → Type 0) → MatchOption o (r ≡ None) (λ at. IsSomeAnd r (R at)) → ((at : Position) (p : ℕ × ℕ) → R at p → p ≡ (at.page, at.cell)) → link_of r ≡ o
pair_of None r R m k = ap link_of m
pair_of (Some at) None R m k = absurd m
pair_of (Some at) (Some p) R m k = ap (λ (q : ℕ × ℕ). Some (position q.0 q.1)) (k at p m)
