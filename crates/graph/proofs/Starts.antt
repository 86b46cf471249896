-- Where the objects of a lawful page start. Assumes nothing.
use Rattle.std.proofs.Common.{◌≡◌, ℕ, zero, suc, ◌+◌, ◌-◌, ◌<◌, ◌≤◌, Bool, true, false, cond, ◌||◌, eqb, leb, List, [], ◌∷◌, map, get_or, Ok, Err, sym, refl, ap, ◌∙◌, subst, ⊎_elim, arith}
use Rattle.std.proofs.lemmas.Bool.{eqb-true, leb-true, cases_eq, eq-eqb, ne_eqb, or_cases}
use Rattle.std.specs.List.{range_with_len}
use Rattle.fault.specs.declared.kinds.Cause.TheVariants.{HeadTooLarge, UndeclaredType, ObjectTooLong, NotZero}
use Rattle.fault.specs.declared.kinds.Fault.{Fault}
use Rattle.fault.specs.Faults.{on_cell, fault}
use Rattle.fault.specs.Refusals.{Checked, ◌>>=◌, ◌>>◌, ◌else◌}
use Rattle.page.specs.declared.descriptor.Descriptor.{Descriptor}
use Rattle.page.specs.Cells.{cell_at}
use Rattle.page.specs.Descriptors.{no_type, declared, type_of}
use Rattle.page.specs.Form.{head_of, type_at, links_fault, objects_fault, unused_fault, first_fault}
use Rattle.page.specs.Walks.{cells_of, kind_of, starts_from, start_cells}
use Rattle.graph.specs.Steps.{starts_at}

abbrev pub Passes : Checked (Unit {0}) → Type 0
Passes r = r ≡ Ok tt

pub both : (r q : Checked (Unit {0})) → Passes r → Passes q → Passes (r >> q)
both (Ok x) q h k = k
both (Err e) q h k = absurd cc

pub parts : (r q : Checked (Unit {0})) → Passes (r >> q) → Passes r × Passes q
parts (Ok x) q h = (refl, h)
parts (Err e) q h = absurd cc

pub test : (b : Bool) (e : Fault) → Passes (b else e) → b ≡ true
test true e h = refl
test false e h = absurd cc

pub tested : (b : Bool) (e : Fault) → b ≡ true → Passes (b else e)
tested true e h = refl
tested false e h = absurd cc

glue : (a b c : Checked (Unit {0})) (z : ℕ) (f : ℕ → Checked (Unit {0})) → (a >> (b >> (c >> Ok z))) >>= f ≡ (a >> (b >> c)) >> f z
glue (Ok x) (Ok y) (Ok w) z f = refl
glue (Ok x) (Ok y) (Err e) z f = refl
glue (Ok x) (Err e) c z f = refl
glue (Err e) b c z f = refl

never : (b : Bool) → (b ≡ true → ⊥) → b ≡ false
never true h = absurd (h refl)
never false h = refl

abbrev pub among : ℕ → List ℕ → Bool
among x [] = false
among x (y ∷ ys) = eqb x y || among x ys

-- page n, of p pages
module _ (ts : List Descriptor) (p n : ℕ) (bs : List ℕ) where
  -- the faults of the object at cell k
  abbrev pub object_fault : ℕ → Checked (Unit {0})
  object_fault k =
      (declared ts (cell_at bs k) else fault UndeclaredType 3 (on_cell n k)) >> ((leb (k + (type_at ts bs k).size) (head_of bs) else fault ObjectTooLong 3 (on_cell n k)) >> links_fault p n bs (type_at ts bs k) k 0 (type_at ts bs k).size)

  objects_step : (k m : ℕ) → objects_fault p n bs ts k (suc m) 0 ≡ object_fault k >> objects_fault p n bs ts (k + 1) m (type_at ts bs k).size
  objects_step k m =
      glue (declared ts (cell_at bs k) else fault UndeclaredType 3 (on_cell n k)) (leb (k + (type_at ts bs k).size) (head_of bs) else fault ObjectTooLong 3 (on_cell n k)) (links_fault p n bs (type_at ts bs k) k 0 (type_at ts bs k).size) (type_at ts bs k).size (λ s. objects_fault p n bs ts (k + 1) m s)

  pub objects_parts : (k m : ℕ) → Passes (objects_fault p n bs ts k (suc m) 0) → Passes (object_fault k) × Passes (objects_fault p n bs ts (k + 1) m (type_at ts bs k).size)
  objects_parts k m h = parts (object_fault k) _ (sym (objects_step k m) ∙ h)

  pub objects_both : (k m : ℕ) → Passes (object_fault k) → Passes (objects_fault p n bs ts (k + 1) m (type_at ts bs k).size) → Passes (objects_fault p n bs ts k (suc m) 0)
  objects_both k m a b = objects_step k m ∙ both (object_fault k) _ a b

  pub known_object : (k : ℕ) → Passes (object_fault k) → declared ts (cell_at bs k) ≡ true
  known_object k h = test _ (fault UndeclaredType 3 (on_cell n k)) (parts (declared ts (cell_at bs k) else fault UndeclaredType 3 (on_cell n k)) _ h).0

  pub object_fits : (k : ℕ) → Passes (object_fault k) → k + (type_at ts bs k).size ≤ head_of bs
  object_fits k h =
      let d = parts (declared ts (cell_at bs k) else fault UndeclaredType 3 (on_cell n k)) _ h in
      let w = parts (leb (k + (type_at ts bs k).size) (head_of bs) else fault ObjectTooLong 3 (on_cell n k)) _ d.1 in
      leb-true _ _ (test _ (fault ObjectTooLong 3 (on_cell n k)) w.0)

  -- where objects start, in the m cells from k on, of which the first s are fields
  abbrev pub list_from : ℕ → ℕ → ℕ → List ℕ
  list_from k zero s = []
  list_from k (suc m) zero = k ∷ list_from (k + 1) m (type_at ts bs k).size
  list_from k (suc m) (suc s) = list_from (k + 1) m s

  abbrev pub starts : List ℕ
  starts = list_from 1 (head_of bs) 0

  -- an object starts past the fields before it
  pub start_past : (k c m s : ℕ) → among k (list_from c m s) ≡ true → c + s ≤ k
  start_past k c zero s h = absurd cc
  start_past k c (suc m) zero h =
      ⊎_elim (λ e. let z = eqb-true k c e in omega arith) (λ e. let z = start_past k (c + 1) m (type_at ts bs c).size e in omega arith) (or_cases (eqb k c) _ h)
  start_past k c (suc m) (suc s) h = let z = start_past k (c + 1) m s h in omega arith

  -- and ends within the used cells
  pub start_within : (k c m s : ℕ) → among k (list_from c m s) ≡ true → Passes (objects_fault p n bs ts c m s) → k + (type_at ts bs k).size ≤ head_of bs
  start_within k c zero s a h = absurd cc
  start_within k c (suc m) zero a h =
      let hh = objects_parts c m h in
      ⊎_elim
      (λ e. subst (λ x. x + (type_at ts bs x).size ≤ head_of bs) (sym (eqb-true k c e)) (object_fits c hh.0))
      (λ e. start_within k (c + 1) m (type_at ts bs c).size e hh.1)
      (or_cases (eqb k c) _ a)
  start_within k c (suc m) (suc s) a h = start_within k (c + 1) m s a h

  zeros_from : (c m i : ℕ) → Passes (unused_fault n bs c m) → c ≤ i → i < c + m → cell_at bs i ≡ 0
  zeros_from c zero i h a b = absurd (omega arith)
  zeros_from c (suc m) i h a b =
      let hh = parts (eqb (cell_at bs c) 0 else fault NotZero 3 (on_cell n c)) (unused_fault n bs (c + 1) m) h in
      ⊎_elim
      (λ e. ap (cell_at bs) e ∙ eqb-true (cell_at bs c) 0 (test _ (fault NotZero 3 (on_cell n c)) hh.0))
      (λ e. zeros_from (c + 1) m i hh.1 (omega arith) (omega arith))
      (cases_eq i c)

  -- what a page without a fault is
  pub record Sound : Type 0 where
    pub head : head_of bs ≤ 63
    pub objects : Passes (objects_fault p n bs ts 1 (head_of bs) 0)
    pub unused : Passes (unused_fault n bs (head_of bs + 1) (63 - head_of bs))
    pub zeros : (i : ℕ) → head_of bs < i → i < 64 → cell_at bs i ≡ 0

  pub sound : Passes (first_fault p n bs ts) → Sound
  sound h =
      let a = parts (leb (head_of bs) 63 else fault HeadTooLarge 3 (on_cell n 0)) _ h in
      let b = parts (objects_fault p n bs ts 1 (head_of bs) 0) _ a.1 in
      let u = leb-true (head_of bs) 63 (test _ (fault HeadTooLarge 3 (on_cell n 0)) a.0) in
      record { head = u; objects = b.0; unused = b.1; zeros = λ i x y. zeros_from (head_of bs + 1) (63 - head_of bs) i b.1 (omega arith) (omega arith) }

  -- no object starts past the used cells
  none : ((i : ℕ) → head_of bs < i → i < 64 → cell_at bs i ≡ 0) → (c w i : ℕ) → head_of bs < c → c + w ≤ 64 → get_or (starts_from ts 0 (map (cell_at bs) (range_with_len c w))) i false ≡ false
  none z c zero i a b = refl
  none z c (suc w) zero a b = ap (declared ts) (z c a (omega arith))
  none z c (suc w) (suc i) a b =
      ap (λ x. get_or (starts_from ts (kind_of ts x).size (map (cell_at bs) (range_with_len (c + 1) w))) i false) (z c a (omega arith)) ∙ none z (c + 1) w i (omega arith) (omega arith)

  -- the walk by headers finds the same starts
  agree_from : ((i : ℕ) → head_of bs < i → i < 64 → cell_at bs i ≡ 0) → (c m w s i : ℕ) → Passes (objects_fault p n bs ts c m s) → s ≤ m → c + m ≡ head_of bs + 1 → m ≤ w → c + w ≤ 64 → get_or (starts_from ts s (map (cell_at bs) (range_with_len c w))) i false ≡ among (c + i) (list_from c m s)
  agree_from z c zero w zero i h a b d e = none z c w i (omega arith) e
  agree_from z c zero w (suc s) i h a b d e = absurd (omega arith)
  agree_from z c (suc m) zero s i h a b d e = absurd (omega arith)
  agree_from z c (suc m) (suc w) zero zero h a b d e =
      let q : c + 0 ≡ c = omega arith in
      known_object c (objects_parts c m h).0 ∙ sym (ap (λ x. x || among (c + 0) (list_from (c + 1) m (type_at ts bs c).size)) (eq-eqb (c + 0) c q))
  agree_from z c (suc m) (suc w) zero (suc i) h a b d e =
      let hh = objects_parts c m h in
      let fits = object_fits c hh.0 in
      let q : c + 1 + i ≡ c + suc i = omega arith in
      ap (λ x. get_or (starts_from ts (cond x (type_of ts (cell_at bs c)) no_type).size (map (cell_at bs) (range_with_len (c + 1) w))) i false) (known_object c hh.0)
      ∙ agree_from z (c + 1) m w (type_at ts bs c).size i hh.1 (omega arith) (omega arith) (omega arith) (omega arith)
      ∙ ap (λ x. among x (list_from (c + 1) m (type_at ts bs c).size)) q
      ∙ sym (ap (λ x. x || among (c + suc i) (list_from (c + 1) m (type_at ts bs c).size)) (ne_eqb (c + suc i) c (λ r. omega arith)))
  agree_from z c (suc m) (suc w) (suc s) zero h a b d e =
      sym (never _ (λ q. let past = start_past (c + 0) (c + 1) m s q in omega arith))
  agree_from z c (suc m) (suc w) (suc s) (suc i) h a b d e =
      let q : c + 1 + i ≡ c + suc i = omega arith in
      agree_from z (c + 1) m w s i h (omega arith) (omega arith) (omega arith) (omega arith) ∙ ap (λ x. among x (list_from (c + 1) m s)) q

  walked : start_cells ts (cells_of bs) ≡ false ∷ starts_from ts 0 (map (cell_at bs) (range_with_len 1 63))
  unfolding cells_of
  walked = refl

  pub agree : Passes (first_fault p n bs ts) → (k : ℕ) → starts_at ts bs k ≡ among k starts
  agree h zero =
      ap (λ l. get_or l 0 false) walked ∙ sym (never _ (λ q. let past = start_past 0 1 (head_of bs) 0 q in omega arith))
  agree h (suc i) =
      let g = sound h in
      let u = g.head in
      let q : 1 + i ≡ suc i = omega arith in
      ap (λ l. get_or l (suc i) false) walked ∙ agree_from g.zeros 1 (head_of bs) 63 0 i g.objects (omega arith) (omega arith) (omega arith) (omega arith) ∙ ap (λ x. among x starts) q
