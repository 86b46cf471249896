-- A call answers 18 exactly where it comes to an opening that does. Assumes nothing.
use Rattle.std.proofs.Common.{◌≡◌, ℕ, ◌+◌, ◌-◌, ◌≤◌, Bool, true, false, not, ltb, leb, List, get_or, Some, None, Ok, Err, Option, sym, refl, ap, ◌∙◌, subst, arith}
use Rattle.std.proofs.lemmas.Bool.{leb-true, ltb-true, le-leb, lt-ltb}
use Rattle.fault.specs.declared.kinds.Cause.TheVariants.{NoCursor, EmptyCursor, NoField, WrongKind, AbsentLink, NoPage, NoObject, PageClosed, NoRoom, NoType, NoAddresses}
use Rattle.fault.specs.declared.kinds.Fault.{Fault}
use Rattle.fault.specs.declared.kinds.Place.{Place}
use Rattle.fault.specs.Faults.{nowhere, on_page, on_cell, on_field, fault, via}
use Rattle.fault.specs.Refusals.{Checked, ◌>>=◌, ◌>>◌, ◌else◌, ◌otherwise◌}
use Rattle.page.specs.Descriptors.{declared, linked, type_of}
use Rattle.page.specs.Form.{head_of, type_at}
use Rattle.store.specs.Pages.{is_page}
use Rattle.store.specs.Rules.{open_at}
use Rattle.graph.specs.declared.calls.Call.{Call}
use Rattle.graph.specs.declared.calls.Call.TheVariants.{Stand, Follow, Read, Target, Note, Join, Part, Add, Leave, Where, Glance, Slot, Save}
use Rattle.page.specs.declared.link.Position.{Position}
use Rattle.graph.specs.declared.calls.Value.{Value}
use Rattle.graph.specs.Graphs.{Graph, Setting, opening}
use Rattle.graph.specs.Laws.{AllWhole, TooMany, EighteenAtCalls}
use Rattle.graph.specs.Openings.{On, Opens, stand, add, read, target, glance, note, part, join, follow, follow_on}
use Rattle.graph.specs.Steps.{on_spot, held, first, pointed, position, along, cursor, page, writing, object, starts_at, stands_on, field, link_field, granted, settled}
use Rattle.graph.proofs.Denies.{Denies, passed, stopped, then_denies, bind_denies, else_denies, denied, exactly}

deny : {A : Type 0} {P : Fault → Type 0} (r : Checked A) → ((e : Fault) → r ≡ Err e → P e) → Denies P r
deny (Ok x) h = passed
deny (Err e) h = stopped (h e refl)

-- what comes after a test knows that it holds
test_denies : {B : Type 0} {P : Fault → Type 0} {q : Checked B} (b : Bool) (e : Fault) → P e → (b ≡ true → Denies P q) → Denies P ((b else e) >> q)
test_denies true e h k = k refl
test_denies false e h k = stopped h

-- and what is bound knows what was granted
known_denies : {A B : Type 0} {P : Fault → Type 0} {f : A → Checked B} (r : Checked A) → Denies P r → ((x : A) → r ≡ Ok x → Denies P (f x)) → Denies P (r >>= f)
known_denies (Ok x) d k = k x refl
known_denies (Err e) (stopped h) k = stopped h

granted_place : {A : Type 0} (o : Option A) (e : Fault) (x : A) → (o otherwise e) ≡ Ok x → o ≡ Some x
granted_place None e x h = absurd cc
granted_place (Some y) e x h = let z : y ≡ x = cc in ap (λ v. Some v) z

-- a call that is refused with 18 came to such an opening
module _ (s : Setting) (g : Graph) (w : AllWhole g.pages) (call : Call) where
  abbrev Told : Fault → Type 0
  Told e = e.cause ≡ 18 → Opens s g call e.place.page × TooMany s g e.place.page

  opens : (n : ℕ) → Opens s g call n → Denies Told (opening s g n)
  opens n o =
      deny (opening s g n) λ e q h.
      let t = (exactly s g n w).only e q h in
      let y = sym ((exactly s g n w).refused t) ∙ q in
      let z : fault NoAddresses 4 (on_page n) ≡ e = cc in
      subst (λ m. Opens s g call m × TooMany s g m) (ap (λ (x : Fault). x.place.page) z) (o, t)

  by : {A : Type 0} (l : Place) (r : Checked A) → Denies Told r → Denies Told (along l r)
  by l (Ok x) passed = passed
  by l (Err e) (stopped h) = stopped h

  range : {B : Type 0} {q : Checked B} (c : ℕ) → (c ≤ 15 → Denies Told q) → Denies Told (cursor c >> q)
  range c k = test_denies (leb c 15) (fault NoCursor 2 nowhere) (λ h. absurd (omega arith)) (λ e. k (leb-true c 15 e))

  pages : {B : Type 0} {q : Checked B} (n : ℕ) → (is_page g.pages n ≡ true → Denies Told q) → Denies Told (page s g n >> q)
  pages n k = test_denies (is_page g.pages n) (fault NoPage 2 (on_page n)) (λ h. absurd (omega arith)) k

  closed : (n : ℕ) (at : Place) → Denies Told (writing s g n at)
  closed n at = else_denies (open_at g.pages n) (fault PageClosed 2 at) (λ h. absurd (omega arith))

  objects : (bs : List ℕ) (at : Position) → Denies Told (object s g bs at)
  objects bs at = else_denies (starts_at s.types bs at.cell) (fault NoObject 2 (on_cell at.page at.cell)) (λ h. absurd (omega arith))

  stands : (c : ℕ) → Denies Told (stands_on s g c)
  stands c = go (get_or g.cursors c None)
    where
      go : (o : Option Position) → Denies Told (o otherwise fault EmptyCursor 2 nowhere)
      go None = stopped (λ h. absurd (omega arith))
      go (Some x) = passed

  on : {B : Type 0} {f : Position → Checked B} (c : ℕ) → c ≤ 15 → ((at : Position) → On g c at → Denies Told (f at)) → Denies Told (stands_on s g c >>= f)
  on c l k = known_denies (stands_on s g c) (stands c) λ at e. k at (record { known = l; stands = granted_place (get_or g.cursors c None) (fault EmptyCursor 2 nowhere) at e })

  fields : (b : Bool → Bool) (c f : ℕ) → c ≤ 15 → ((at : Position) → On g c at → Opens s g call at.page) → Denies Told (field s g b c f)
  fields b c f l k =
      on c l λ at o. bind_denies (opens at.page (k at o)) λ bs.
      then_denies (else_denies (ltb f (type_at s.types bs at.cell).size) (fault NoField 2 (on_field at.page at.cell f)) (λ h. absurd (omega arith)))
      (then_denies (else_denies (b (linked (type_at s.types bs at.cell) f)) (fault WrongKind 2 (on_field at.page at.cell f)) (λ h. absurd (omega arith))) passed)

all_told : (s : Setting) (g : Graph) (w : AllWhole g.pages) (c : Call) → Denies (Told s g w c) (granted s g c)
all_told s g w (Stand c n k) =
    let a = Stand c n k in
    bind_denies (range s g w a c λ l. pages s g w a n λ p. bind_denies (opens s g w a n (stand c n k l p)) λ bs. then_denies (objects s g w a bs (position n (first k))) passed) λ x. passed
all_told s g w (Follow c f d) =
    let a = Follow c f d in
    bind_denies (range s g w a c λ l. range s g w a d λ m. known_denies (link_field s g c f) (fields s g w a (λ b. b) c f l (λ at o. follow c f d at o m)) λ o e.
    test_denies (ltb 0 (held o)) (fault AbsentLink 2 (on_spot o)) (λ h. absurd (omega arith)) λ q.
    by s g w a (on_spot o) _ (bind_denies (opens s g w a (pointed (held o)).page (follow_on c f d o l m e (ltb-true 0 (held o) q))) λ bs. then_denies (objects s g w a bs (pointed (held o))) passed)) λ x. passed
all_told s g w (Read c f) = let a = Read c f in bind_denies (range s g w a c λ l. bind_denies (fields s g w a not c f l (read c f)) λ o. passed) λ x. passed
all_told s g w (Target c f) = let a = Target c f in bind_denies (range s g w a c λ l. bind_denies (fields s g w a (λ b. b) c f l (target c f)) λ o. passed) λ x. passed
all_told s g w (Note c f x) =
    let a = Note c f x in
    bind_denies (range s g w a c λ l. bind_denies (fields s g w a not c f l (note c f x)) λ o. then_denies (closed s g w a o.page (on_spot o)) passed) λ x. passed
all_told s g w (Join c f d) =
    let a = Join c f d in
    bind_denies (range s g w a c λ l. range s g w a d λ m. then_denies (stands s g w a c) (on s g w a d m λ to q. bind_denies (fields s g w a (λ b. b) c f l (λ at o. join c f d at to o q)) λ o. then_denies (closed s g w a o.page (on_spot o)) passed)) λ x. passed
all_told s g w (Part c f) =
    let a = Part c f in
    bind_denies (range s g w a c λ l. bind_denies (fields s g w a (λ b. b) c f l (part c f)) λ o. then_denies (closed s g w a o.page (on_spot o)) passed) λ x. passed
all_told s g w (Add c t n) =
    let a = Add c t n in
    bind_denies (range s g w a c λ l. test_denies (declared s.types t) (fault NoType 2 nowhere) (λ h. absurd (omega arith)) λ q.
    pages s g w a n λ p. bind_denies (opens s g w a n (add c t n l q p)) λ bs. then_denies (closed s g w a n (on_page n))
    (then_denies (else_denies (leb (1 + (type_of s.types t).size) (63 - head_of bs)) (fault NoRoom 2 (on_page n)) (λ h. absurd (omega arith))) passed)) λ x. passed
all_told s g w (Leave c) = bind_denies (range s g w (Leave c) c λ l. passed) λ x. passed
all_told s g w (Where c) = bind_denies (range s g w (Where c) c λ l. stands s g w (Where c) c) λ x. passed
all_told s g w (Glance c f) = let a = Glance c f in bind_denies (range s g w a c λ l. bind_denies (fields s g w a (λ b. b) c f l (glance c f)) λ o. passed) λ x. passed
all_told s g w (Slot i) = passed
all_told s g w Save = passed

told : {P : Fault → Type 0} (g : Graph) (r : Checked (Value × Graph)) (e : Fault) → Denies P r → (settled g r).0 ≡ Err e → P e
told g (Ok x) e h q = absurd cc
told g (Err d) e h q = let z : d ≡ e = cc in denied (Err d) e h (ap (λ y. Err y) z)

-- and one that comes to such an opening is refused
pass : {B : Type 0} {q : Checked B} {e : Fault} (b : Bool) (d : Fault) → b ≡ true → q ≡ Err e → (b else d) >> q ≡ Err e
pass {q = q} b d h k = ap (λ x. (x else d) >> q) h ∙ k

past : {A B : Type 0} {e : Fault} {r : Checked A} (x : A) (f : A → Checked B) → r ≡ Ok x → f x ≡ Err e → r >>= f ≡ Err e
past x f h k = ap (λ r. r >>= f) h ∙ k

past_it : {A B : Type 0} {e : Fault} {r : Checked A} {q : Checked B} (x : A) → r ≡ Ok x → q ≡ Err e → r >> q ≡ Err e
past_it {q = q} x h k = ap (λ r. r >> q) h ∙ k

stop : {A B : Type 0} {e : Fault} {r : Checked A} (f : A → Checked B) → r ≡ Err e → r >>= f ≡ Err e
stop f h = ap (λ r. r >>= f) h

module _ (s : Setting) (g : Graph) where
  abbrev full : ℕ → Fault
  full n = fault NoAddresses 4 (on_page n)

  known : {B : Type 0} {q : Checked B} {e : Fault} (c : ℕ) → c ≤ 15 → q ≡ Err e → cursor c >> q ≡ Err e
  known c l h = pass (leb c 15) (fault NoCursor 2 nowhere) (le-leb c 15 l) h

  paged : {B : Type 0} {q : Checked B} {e : Fault} (n : ℕ) → is_page g.pages n ≡ true → q ≡ Err e → page s g n >> q ≡ Err e
  paged n p h = pass (is_page g.pages n) (fault NoPage 2 (on_page n)) p h

  stood : (c : ℕ) (at : Position) → On g c at → stands_on s g c ≡ Ok at
  stood c at o = ap (λ v. v otherwise fault EmptyCursor 2 nowhere) o.stands

  field_full : (b : Bool → Bool) (c f : ℕ) (at : Position) → On g c at → opening s g at.page ≡ Err (full at.page) → field s g b c f ≡ Err (full at.page)
  field_full b c f at o h = past at _ (stood c at o) (stop _ h)

  out : {c : Call} {n : ℕ} → Opens s g c n → opening s g n ≡ Err (full n) → (l : Place) × (granted s g c ≡ Err (via l (full n)))
  out (stand c n k l p) h = (nowhere, stop _ (known c l (paged n p (stop _ h))))
  out (add c t n l q p) h = (nowhere, stop _ (known c l (pass (declared s.types t) (fault NoType 2 nowhere) q (paged n p (stop _ h)))))
  out (read c f at o) h = (nowhere, stop _ (known c o.known (stop _ (field_full not c f at o h))))
  out (target c f at o) h = (nowhere, stop _ (known c o.known (stop _ (field_full (λ b. b) c f at o h))))
  out (glance c f at o) h = (nowhere, stop _ (known c o.known (stop _ (field_full (λ b. b) c f at o h))))
  out (note c f x at o) h = (nowhere, stop _ (known c o.known (stop _ (field_full not c f at o h))))
  out (part c f at o) h = (nowhere, stop _ (known c o.known (stop _ (field_full (λ b. b) c f at o h))))
  out (join c f d at to o q) h =
      (nowhere, stop _ (known c o.known (known d q.known (past_it at (stood c at o) (past to _ (stood d to q) (stop _ (field_full (λ b. b) c f at o h)))))))
  out (follow c f d at o m) h = (nowhere, stop _ (known c o.known (known d m (stop _ (field_full (λ b. b) c f at o h)))))
  out (follow_on c f d o l m e q) h =
      (on_spot o, stop _ (known c l (known d m (past o _ e (pass (ltb 0 (held o)) (fault AbsentLink 2 (on_spot o)) (lt-ltb 0 (held o) q) (ap (along (on_spot o)) (stop _ h)))))))

pub at_calls : EighteenAtCalls
at_calls s g c w = record {
  refused = λ n o t. let r = out s g o ((exactly s g n w).refused t) in (r.0, ap (λ x. (settled g x).0) r.1);
  only = λ e q h. told g (granted s g c) e (all_told s g w c) q h;
}
