-- What holds of refusals, and when an opening is refused with 18. Assumes nothing.
use Rattle.std.proofs.Common.{◌≡◌, ℕ, zero, suc, ◌+◌, ◌-◌, ◌<◌, Bool, true, false, not, ◌||◌, leb, ◌⊎◌, List, [], length, Ok, Err, refl, ap, ◌∙◌, subst, inl, inr, arith}
use Rattle.std.proofs.lemmas.Bool.{leb-false, lt-leb}
use Rattle.fault.specs.declared.kinds.Cause.TheVariants.{HeadTooLarge, UndeclaredType, ObjectTooLong, BadLink, NotZero, NoAddresses}
use Rattle.fault.specs.declared.kinds.Fault.{Fault}
use Rattle.fault.specs.Faults.{on_page, on_cell, on_field, fault, mark}
use Rattle.fault.specs.Refusals.{Checked, ◌>>=◌, ◌>>◌, ◌else◌}
use Rattle.page.specs.declared.descriptor.Descriptor.{Descriptor}
use Rattle.page.specs.Cells.{cell_at}
use Rattle.page.specs.Descriptors.{linked, declared}
use Rattle.page.specs.Form.{head_of, field_at, type_at, links_fault, object_at, objects_fault, unused_fault, first_fault}
use Rattle.page.specs.Links.{is_link}
use Rattle.store.specs.Pages.{Content, bytes, marked, page_at, Whole}
use Rattle.store.specs.Rules.{readable, held_by}
use Rattle.graph.specs.Graphs.{Graph, Setting, wanted_count, fetched, opening}
use Rattle.graph.specs.Laws.{AllWhole, TooMany, EighteenExactly}

-- the fault, if there is one, has P
pub data Denies {A : Type 0} (P : Fault → Type 0) : Checked A → Type 0 where
  passed : {x : A} → Denies P (Ok x)
  stopped : {e : Fault} → P e → Denies P (Err e)

pub then_denies : {A B : Type 0} {P : Fault → Type 0} {r : Checked A} {q : Checked B} → Denies P r → Denies P q → Denies P (r >> q)
then_denies passed k = k
then_denies (stopped h) k = stopped h

pub bind_denies : {A B : Type 0} {P : Fault → Type 0} {r : Checked A} {f : A → Checked B} → Denies P r → ((x : A) → Denies P (f x)) → Denies P (r >>= f)
bind_denies passed k = k _
bind_denies (stopped h) k = stopped h

pub else_denies : {P : Fault → Type 0} (b : Bool) (e : Fault) → P e → Denies P (b else e)
else_denies true e h = passed
else_denies false e h = stopped h

pub denied : {A : Type 0} {P : Fault → Type 0} (r : Checked A) (e : Fault) → Denies P r → r ≡ Err e → P e
denied (Ok x) e passed h = absurd cc
denied {P = P} (Err d) e (stopped k) h = let z : d ≡ e = cc in subst P z k

abbrev Low : Fault → Type 0
Low e = e.cause < 18

module _ (p n : ℕ) (bs : List ℕ) where
  links_low : (d : Descriptor) (k f m : ℕ) → Denies Low (links_fault p n bs d k f m)
  links_low d k f zero = passed
  links_low d k f (suc m) =
      then_denies (else_denies (not (linked d f) || is_link p (field_at bs k f)) (fault BadLink 3 (on_field n k f)) (omega arith)) (links_low d k (f + 1) m)

  unused_low : (k m : ℕ) → Denies Low (unused_fault n bs k m)
  unused_low k zero = passed
  unused_low k (suc m) = then_denies (else_denies _ (fault NotZero 3 (on_cell n k)) (omega arith)) (unused_low (k + 1) m)

  module _ (ts : List Descriptor) where
    object_low : (k : ℕ) → Denies Low (object_at p n bs ts k)
    object_low k =
        then_denies (else_denies (declared ts (cell_at bs k)) (fault UndeclaredType 3 (on_cell n k)) (omega arith))
        (then_denies (else_denies (leb (k + (type_at ts bs k).size) (head_of bs)) (fault ObjectTooLong 3 (on_cell n k)) (omega arith))
        (then_denies (links_low (type_at ts bs k) k 0 (type_at ts bs k).size) passed))

    objects_low : (k m s : ℕ) → Denies Low (objects_fault p n bs ts k m s)
    objects_low k zero s = passed
    objects_low k (suc m) zero = bind_denies (object_low k) (λ s. objects_low (k + 1) m s)
    objects_low k (suc m) (suc s) = objects_low (k + 1) m s

    first_low : Denies Low (first_fault p n bs ts)
    first_low =
        then_denies (else_denies (leb (head_of bs) 63) (fault HeadTooLarge 3 (on_cell n 0)) (omega arith)) (then_denies (objects_low 1 (head_of bs) 0) (unused_low (head_of bs + 1) (63 - head_of bs)))

-- where a refusal comes from
bind_err : {A B : Type 0} (r : Checked A) (f : A → Checked B) (e : Fault) → r >>= f ≡ Err e → (r ≡ Err e) ⊎ ((x : A) × (r ≡ Ok x) × (f x ≡ Err e))
bind_err (Ok x) f e h = inr (x, refl, h)
bind_err {B = B} (Err d) f e h = let z : d ≡ e = cc in inl (ap (λ y. Err y) z)

seq_err : {A B : Type 0} (r : Checked A) (q : Checked B) (e : Fault) → r >> q ≡ Err e → (r ≡ Err e) ⊎ ((x : A) × (r ≡ Ok x) × (q ≡ Err e))
seq_err (Ok x) q e h = inr (x, refl, h)
seq_err (Err d) q e h = let z : d ≡ e = cc in inl (ap (λ y. Err y) z)

bind_ok : {A B : Type 0} (r : Checked A) (x : A) (f : A → Checked B) → r ≡ Ok x → r >>= f ≡ f x
bind_ok r x f h = ap (λ q. q >>= f) h

seq_ok : {A B : Type 0} (r : Checked A) (x : A) (q : Checked B) → r ≡ Ok x → r >> q ≡ q
seq_ok r x q h = ap (λ t. t >> q) h

last_err : {A : Type 0} (b : Bool) (e : Fault) (x : A) → b ≡ false → (b else e) >> Ok x ≡ Err e
last_err true e x h = absurd cc
last_err false e x h = refl

err_last : {A : Type 0} (b : Bool) (d e : Fault) (x : A) → (b else d) >> Ok x ≡ Err e → b ≡ false
err_last true d e x h = absurd cc
err_last false d e x h = refl

abbrev fetch : Content → ℕ → Checked (List ℕ)
fetch k n = readable k n >> Ok (held_by k [])

-- no mark has the cause 18
marks_low : (n : ℕ) (k : Content) (e : Fault) → Whole k → e.cause ≡ 18 → fetch k n ≡ Err e → ⊥
marks_low n (bytes bs) e w c h = absurd cc
marks_low n (marked cause layer) e w c h = let z : ◌≡◌ {A = Fault} (mark cause layer n) e = cc in w (ap (λ (x : Fault). x.cause) z ∙ c)

is_read : (n : ℕ) (k : Content) (bs : List ℕ) → fetch k n ≡ Ok bs → k ≡ bytes bs
is_read n (bytes cs) bs h = let z : cs ≡ bs = cc in ap bytes z
is_read n (marked c l) bs h = absurd cc

module _ (s : Setting) (g : Graph) (n : ℕ) where
  abbrev rest : List ℕ → Checked (List ℕ)
  rest bs = (leb (wanted_count s g n bs) s.addresses else fault NoAddresses 4 (on_page n)) >> Ok bs

  refused : TooMany s g n → opening s g n ≡ Err (fault NoAddresses 4 (on_page n))
  refused t =
      bind_ok (fetched g.pages n) t.held _ (ap (λ k. fetch k n) t.lawful.reads)
      ∙ seq_ok (first_fault (length g.pages) n t.held s.types) tt (rest t.held) t.lawful.faultless
      ∙ last_err _ (fault NoAddresses 4 (on_page n)) t.held (lt-leb _ _ t.more)

  lawful_then : (bs : List ℕ) (e : Fault) → e.cause ≡ 18 → (page_at g.pages n).content ≡ bytes bs → (first_fault (length g.pages) n bs s.types ≡ Err e) ⊎ ((x : Unit {0}) × (first_fault (length g.pages) n bs s.types ≡ Ok x) × (rest bs ≡ Err e)) → TooMany s g n
  lawful_then bs e h c (inl k) = let low = denied _ e (first_low (length g.pages) n bs s.types) k in absurd (omega arith)
  lawful_then bs e h c (inr k) =
      record { held = bs; lawful = record { reads = c; faultless = k.1 }; more = leb-false _ _ (err_last _ (fault NoAddresses 4 (on_page n)) e bs k.2) }

  read_then : AllWhole g.pages → (e : Fault) → e.cause ≡ 18 → (fetched g.pages n ≡ Err e) ⊎ ((bs : List ℕ) × (fetched g.pages n ≡ Ok bs) × (first_fault (length g.pages) n bs s.types >> rest bs ≡ Err e)) → TooMany s g n
  read_then w e h (inl k) = absurd (marks_low n (page_at g.pages n).content e (w n) h k)
  read_then w e h (inr k) =
      lawful_then k.0 e h (is_read n _ k.0 k.1) (seq_err (first_fault (length g.pages) n k.0 s.types) (rest k.0) e k.2)

pub exactly : EighteenExactly
exactly s g n w = record {
  refused = refused s g n;
  only = λ e h c. read_then s g n w e c (bind_err (fetched g.pages n) _ e h);
}
