-- A page stays lawful when a field of one of its objects is changed lawfully. Assumes nothing.
use Rattle.std.proofs.Common.{◌≡◌, ℕ, zero, suc, ◌+◌, ◌-◌, ◌^◌, ◌<◌, ◌≤◌, true, not, ◌||◌, eqb, leb, List, ◌∷◌, length, Ok, sym, refl, ap, ◌∙◌, subst, ap₂, ⊎_elim, arith}
use Rattle.std.proofs.lemmas.Bool.{eqb-true, le-leb, cases_eq, or_cases, or_left, or_right}
use Rattle.fault.specs.declared.kinds.Cause.TheVariants.{HeadTooLarge, UndeclaredType, ObjectTooLong, BadLink, NotZero}
use Rattle.fault.specs.Faults.{on_cell, on_field, fault}
use Rattle.fault.specs.Refusals.{Checked, ◌>>◌, ◌else◌}
use Rattle.page.specs.declared.descriptor.Descriptor.{Descriptor}
use Rattle.page.specs.Cells.{cell_at, put_cell}
use Rattle.page.specs.Descriptors.{linked, declared, type_of}
use Rattle.page.specs.Form.{head_of, field_at, type_at, links_fault, objects_fault, unused_fault, first_fault}
use Rattle.page.specs.Links.{is_link}
use Rattle.graph.specs.Steps.{starts_at}
use Rattle.graph.proofs.Cells.{put_read, put_beside}
use Rattle.graph.proofs.Starts.{Passes, both, parts, test, tested, among, object_fault, objects_parts, objects_both, list_from, starts, start_past, start_within, sound, agree}

-- cs is bs but for cell j
module _ (ts : List Descriptor) (p n : ℕ) (bs cs : List ℕ) (j : ℕ) (same : (i : ℕ) → (i ≡ j → ⊥) → cell_at cs i ≡ cell_at bs i) (some : 0 < j) where
  fields_same : (t : Descriptor) (k f m : ℕ) → ((i : ℕ) → f ≤ i → i < f + m → k + 1 + i ≡ j → ⊥) → links_fault p n cs t k f m ≡ links_fault p n bs t k f m
  fields_same t k f zero h = refl
  fields_same t k f (suc m) h =
      ap₂ (λ v r. (not (linked t f) || is_link p v else fault BadLink 3 (on_field n k f)) >> r) (same (k + 1 + f) (h f (omega arith) (omega arith))) (fields_same t k (f + 1) m (λ i a b. h i (omega arith) (omega arith)))

  abbrev object : ℕ → ℕ → ℕ → Checked (Unit {0}) → Checked (Unit {0})
  object k w u r = (declared ts w else fault UndeclaredType 3 (on_cell n k)) >> ((leb (k + (type_of ts w).size) u else fault ObjectTooLong 3 (on_cell n k)) >> r)

  -- the object, by the old header and head
  object_by : (k : ℕ) → (k ≡ j → ⊥) → object_fault ts p n cs k ≡ object k (cell_at bs k) (head_of bs) (links_fault p n cs (type_at ts bs k) k 0 (type_at ts bs k).size)
  object_by k a =
      ap (λ w. object k w (head_of cs) (links_fault p n cs (type_of ts w) k 0 (type_of ts w).size)) (same k a)
      ∙ ap (λ u. object k (cell_at bs k) u (links_fault p n cs (type_at ts bs k) k 0 (type_at ts bs k).size)) (same 0 (λ z. omega arith))

  object_same : (k : ℕ) → (k ≡ j → ⊥) → ((i : ℕ) → i < (type_at ts bs k).size → k + 1 + i ≡ j → ⊥) → object_fault ts p n cs k ≡ object_fault ts p n bs k
  object_same k a h =
      object_by k a ∙ ap (object k (cell_at bs k) (head_of bs)) (fields_same (type_at ts bs k) k 0 (type_at ts bs k).size (λ i _ b. h i (omega arith)))

  -- what is wholly past the cell
  objects_past : (c m s : ℕ) → j < c + s → Passes (objects_fault p n bs ts c m s) → Passes (objects_fault p n cs ts c m s)
  objects_past c zero s a h = refl
  objects_past c (suc m) zero a h =
      let hh = objects_parts ts p n bs c m h in
      objects_both ts p n cs c m (object_same c (λ e. omega arith) (λ i b e. omega arith) ∙ hh.0)
      (ap (λ w. objects_fault p n cs ts (c + 1) m (type_of ts w).size) (same c (λ e. omega arith)) ∙ objects_past (c + 1) m (type_at ts bs c).size (omega arith) hh.1)
  objects_past c (suc m) (suc s) a h = objects_past (c + 1) m s (omega arith) h

  starts_past : (c m s : ℕ) → j < c + s → list_from ts p n cs c m s ≡ list_from ts p n bs c m s
  starts_past c zero s h = refl
  starts_past c (suc m) zero h =
      ap (λ l. c ∷ l) (ap (λ w. list_from ts p n cs (c + 1) m (type_of ts w).size) (same c (λ e. omega arith)) ∙ starts_past (c + 1) m (type_at ts bs c).size (omega arith))
  starts_past c (suc m) (suc s) h = starts_past (c + 1) m s (omega arith)

  rest_past : (c m : ℕ) → j < c → unused_fault n cs c m ≡ unused_fault n bs c m
  rest_past c zero h = refl
  rest_past c (suc m) h =
      ap₂ (λ v r. (eqb v 0 else fault NotZero 3 (on_cell n c)) >> r) (same c (λ e. omega arith)) (rest_past (c + 1) m (omega arith))

  -- cell j is field f of the object at cell k, and holds a number, or a link that is one
  module _ (k f : ℕ) (here : j ≡ k + 1 + f) (within : f < (type_at ts bs k).size) (good : (not (linked (type_at ts bs k) f) || is_link p (cell_at cs j)) ≡ true) where
    fields_hit : (i m : ℕ) → Passes (links_fault p n bs (type_at ts bs k) k i m) → Passes (links_fault p n cs (type_at ts bs k) k i m)
    fields_hit i zero h = refl
    fields_hit i (suc m) h =
        let hh = parts (not (linked (type_at ts bs k) i) || is_link p (field_at bs k i) else fault BadLink 3 (on_field n k i)) (links_fault p n bs (type_at ts bs k) k (i + 1) m) h in
        let one : (not (linked (type_at ts bs k) i) || is_link p (field_at cs k i)) ≡ true =
        ⊎_elim
        (λ e. let q : j ≡ k + 1 + i = omega arith in subst (λ x. (not (linked (type_at ts bs k) x) || is_link p (field_at cs k x)) ≡ true) (sym e) (subst (λ x. (not (linked (type_at ts bs k) f) || is_link p (cell_at cs x)) ≡ true) here good))
        (λ e. ap (λ v. not (linked (type_at ts bs k) i) || is_link p v) (same (k + 1 + i) (λ z. e (omega arith))) ∙ test _ _ hh.0)
        (cases_eq i f) in
        both _ _ (tested _ (fault BadLink 3 (on_field n k i)) one) (fields_hit (i + 1) m hh.1)

    object_hit : Passes (object_fault ts p n bs k) → Passes (object_fault ts p n cs k)
    object_hit h =
        let a = parts (declared ts (cell_at bs k) else fault UndeclaredType 3 (on_cell n k)) _ h in
        let b = parts (leb (k + (type_at ts bs k).size) (head_of bs) else fault ObjectTooLong 3 (on_cell n k)) _ a.1 in
        object_by k (λ e. omega arith) ∙ both _ _ a.0 (both _ _ b.0 (fields_hit 0 (type_at ts bs k).size b.1))

    objects_hit : (c m s : ℕ) → among k (list_from ts p n bs c m s) ≡ true → Passes (objects_fault p n bs ts c m s) → Passes (objects_fault p n cs ts c m s)
    objects_hit c zero s a h = refl
    objects_hit c (suc m) zero a h =
        let hh = objects_parts ts p n bs c m h in
        ⊎_elim
        (λ e. let z = eqb-true k c e in
        objects_both ts p n cs c m (subst (λ x. Passes (object_fault ts p n bs x) → Passes (object_fault ts p n cs x)) z object_hit hh.0)
        (ap (λ w. objects_fault p n cs ts (c + 1) m (type_of ts w).size) (same c (λ e. omega arith)) ∙ objects_past (c + 1) m (type_at ts bs c).size (subst (λ x. j < x + 1 + (type_at ts bs x).size) z (omega arith)) hh.1))
        (λ e. let z = start_past ts p n bs k (c + 1) m (type_at ts bs c).size e in
        objects_both ts p n cs c m (object_same c (λ q. omega arith) (λ i b q. omega arith) ∙ hh.0)
        (ap (λ w. objects_fault p n cs ts (c + 1) m (type_of ts w).size) (same c (λ q. omega arith)) ∙ objects_hit (c + 1) m (type_at ts bs c).size e hh.1))
        (or_cases (eqb k c) _ a)
    objects_hit c (suc m) (suc s) a h = objects_hit (c + 1) m s a h

    starts_hit : (c m s : ℕ) → among k (list_from ts p n bs c m s) ≡ true → list_from ts p n cs c m s ≡ list_from ts p n bs c m s
    starts_hit c zero s a = refl
    starts_hit c (suc m) zero a =
        ⊎_elim
        (λ e. let z = eqb-true k c e in
        ap (λ l. c ∷ l) (ap (λ w. list_from ts p n cs (c + 1) m (type_of ts w).size) (same c (λ e. omega arith)) ∙ starts_past (c + 1) m (type_at ts bs c).size (subst (λ x. j < x + 1 + (type_at ts bs x).size) z (omega arith))))
        (λ e. let z = start_past ts p n bs k (c + 1) m (type_at ts bs c).size e in
        ap (λ l. c ∷ l) (ap (λ w. list_from ts p n cs (c + 1) m (type_of ts w).size) (same c (λ q. omega arith)) ∙ starts_hit (c + 1) m (type_at ts bs c).size e))
        (or_cases (eqb k c) _ a)
    starts_hit c (suc m) (suc s) a = starts_hit (c + 1) m s a

    first_hit : among k (starts ts p n bs) ≡ true → Passes (first_fault p n bs ts) → Passes (first_fault p n cs ts)
    first_hit s h =
        let g = sound ts p n bs h in
        let w = start_within ts p n bs k 1 (head_of bs) 0 s g.objects in
        ap (λ u. (leb u 63 else fault HeadTooLarge 3 (on_cell n 0)) >> (objects_fault p n cs ts 1 u 0 >> unused_fault n cs (u + 1) (63 - u))) (same 0 (λ e. omega arith))
        ∙ both _ _ (tested _ (fault HeadTooLarge 3 (on_cell n 0)) (le-leb _ _ g.head)) (both _ _ (objects_hit 1 (head_of bs) 0 s g.objects) (rest_past (head_of bs + 1) (63 - head_of bs) (omega arith) ∙ g.unused))

    starts_same : among k (starts ts p n bs) ≡ true → starts ts p n cs ≡ starts ts p n bs
    starts_same s = ap (λ u. list_from ts p n cs 1 u 0) (same 0 (λ e. omega arith)) ∙ starts_hit 1 (head_of bs) 0 s

-- what is kept of the page bs
pub record Keeps (ts : List Descriptor) (p n : ℕ) (bs cs : List ℕ) : Type 0 where
  pub lawful : first_fault p n cs ts ≡ Ok tt
  pub started : (k : ℕ) → starts_at ts bs k ≡ true → starts_at ts cs k ≡ true

-- a lawful page of 512 bytes, an object that starts at cell k, and its field f
module _ (ts : List Descriptor) (p n : ℕ) (bs : List ℕ) (l : length bs ≡ 512) (h : first_fault p n bs ts ≡ Ok tt) (k f : ℕ) (begins : starts_at ts bs k ≡ true) (w : f < (type_at ts bs k).size) where
  listed : among k (starts ts p n bs) ≡ true
  listed = sym (agree ts p n bs h k) ∙ begins

  inside : k + 1 + f < 64
  inside =
      let g = sound ts p n bs h in
      let u = g.head in
      let i = start_within ts p n bs k 1 (head_of bs) 0 listed g.objects in
      omega arith

  put_kept : (x : ℕ) → (not (linked (type_at ts bs k) f) || is_link p (cell_at (put_cell bs (k + 1 + f) x) (k + 1 + f))) ≡ true → Keeps ts p n bs (put_cell bs (k + 1 + f) x)
  put_kept x good =
      let cs = put_cell bs (k + 1 + f) x in
      let i = inside in
      let same : (q : ℕ) → (q ≡ k + 1 + f → ⊥) → cell_at cs q ≡ cell_at bs q = λ q ne. put_beside bs (k + 1 + f) x q (omega arith) ne in
      let lawful = first_hit ts p n bs cs (k + 1 + f) same (omega arith) k f refl w good listed h in
      record {
        lawful = lawful;
        started = λ q e. agree ts p n cs lawful q ∙ ap (among q) (starts_same ts p n bs cs (k + 1 + f) same (omega arith) k f refl w good listed) ∙ sym (agree ts p n bs h q) ∙ e;
      }

  -- a number in place of a number
  pub number_kept : (x : ℕ) → not (linked (type_at ts bs k) f) ≡ true → Keeps ts p n bs (put_cell bs (k + 1 + f) x)
  number_kept x good = put_kept x (or_left _ _ good)

  -- a link in place of a link
  pub link_kept : (x : ℕ) → x < 2 ^ 64 → is_link p x ≡ true → Keeps ts p n bs (put_cell bs (k + 1 + f) x)
  link_kept x small good =
      let i = inside in
      put_kept x (or_right (not (linked (type_at ts bs k) f)) _ (ap (is_link p) (put_read bs (k + 1 + f) x (omega arith) small) ∙ good))
