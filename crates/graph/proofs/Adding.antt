-- A page stays lawful when an object is added to it. Assumes nothing.
use Rattle.std.proofs.Common.{◌≡◌, ℕ, zero, suc, ◌+◌, ◌-◌, ◌<◌, ◌≤◌, true, false, not, ◌||◌, eqb, ltb, leb, List, [], ◌∷◌, ◌++◌, length, Ok, sym, refl, ap, ◌∙◌, subst, ap₂, ⊎_elim, arith}
use Rattle.std.proofs.lemmas.Bool.{leb-true, le-leb, eq-eqb, and_parts, or_cases, or_left, or_right}
use Rattle.fault.specs.declared.kinds.Cause.TheVariants.{HeadTooLarge, UndeclaredType, ObjectTooLong, BadLink, NotZero}
use Rattle.fault.specs.Faults.{on_cell, on_field, fault}
use Rattle.fault.specs.Refusals.{Checked, ◌>>◌, ◌else◌}
use Rattle.page.specs.declared.descriptor.Descriptor.{Descriptor}
use Rattle.page.specs.Cells.{cell_at, put_cell}
use Rattle.page.specs.Descriptors.{linked, declared, type_of}
use Rattle.page.specs.Form.{head_of, field_at, type_at, links_fault, objects_fault, unused_fault, first_fault}
use Rattle.page.specs.Links.{is_link}
use Rattle.graph.specs.Steps.{put_object, starts_at}
use Rattle.graph.proofs.Cells.{put_read, put_beside, length_put_cell}
use Rattle.graph.proofs.Fields.{Keeps}
use Rattle.graph.proofs.Starts.{Passes, both, parts, tested, among, object_fault, objects_parts, objects_both, object_fits, list_from, starts, sound, agree}

among_left : (k : ℕ) (xs ys : List ℕ) → among k xs ≡ true → among k (xs ++ ys) ≡ true
among_left k [] ys h = absurd cc
among_left k (x ∷ xs) ys h =
    ⊎_elim (λ e. or_left (eqb k x) (among k (xs ++ ys)) e) (λ e. or_right (eqb k x) (among k (xs ++ ys)) (among_left k xs ys e)) (or_cases (eqb k x) (among k xs) h)

among_last : (k : ℕ) (xs : List ℕ) → among k (xs ++ k ∷ []) ≡ true
among_last k [] = or_left (eqb k k) false (eq-eqb k k refl)
among_last k (x ∷ xs) = or_right (eqb k x) (among k (xs ++ k ∷ [])) (among_last k xs)

-- cs is bs with an object of type t, of z fields, after the u cells head_of
module _ (ts : List Descriptor) (p n : ℕ) (bs cs : List ℕ) (t : ℕ)
    (same : (i : ℕ) → (i ≡ 0 → ⊥) → (i ≡ head_of bs + 1 → ⊥) → cell_at cs i ≡ cell_at bs i)
    (head : head_of cs ≡ head_of bs + 1 + (type_of ts t).size) (header : cell_at cs (head_of bs + 1) ≡ t)
    (room : head_of bs + 1 + (type_of ts t).size ≤ 63) (known : declared ts t ≡ true)
    (zeros : (i : ℕ) → head_of bs < i → i < 64 → cell_at bs i ≡ 0) where
  fields_old : (s : Descriptor) (k f m : ℕ) → k + f + m ≤ head_of bs → links_fault p n cs s k f m ≡ links_fault p n bs s k f m
  fields_old s k f zero h = refl
  fields_old s k f (suc m) h =
      ap₂ (λ v r. (not (linked s f) || is_link p v else fault BadLink 3 (on_field n k f)) >> r) (same (k + 1 + f) (λ e. omega arith) (λ e. omega arith)) (fields_old s k (f + 1) m (omega arith))

  fields_new : (s : Descriptor) (f m : ℕ) → head_of bs + 1 + f + m ≤ 63 → Passes (links_fault p n cs s (head_of bs + 1) f m)
  fields_new s f zero h = refl
  fields_new s f (suc m) h =
      let v : field_at cs (head_of bs + 1) f ≡ 0 = same (head_of bs + 1 + 1 + f) (λ e. omega arith) (λ e. omega arith) ∙ zeros (head_of bs + 1 + 1 + f) (omega arith) (omega arith) in
      both _ _ (tested _ (fault BadLink 3 (on_field n (head_of bs + 1) f)) (or_right (not (linked s f)) _ (or_left _ _ (eq-eqb _ 0 v)))) (fields_new s (f + 1) m (omega arith))

  abbrev object : ℕ → ℕ → ℕ → Checked (Unit {0}) → Checked (Unit {0})
  object k w u r = (declared ts w else fault UndeclaredType 3 (on_cell n k)) >> ((leb (k + (type_of ts w).size) u else fault ObjectTooLong 3 (on_cell n k)) >> r)

  object_by : (k w : ℕ) → cell_at cs k ≡ w → object_fault ts p n cs k ≡ object k w (head_of bs + 1 + (type_of ts t).size) (links_fault p n cs (type_of ts w) k 0 (type_of ts w).size)
  object_by k w e =
      ap (λ w. object k w (head_of cs) (links_fault p n cs (type_of ts w) k 0 (type_of ts w).size)) e
      ∙ ap (λ u. object k w u (links_fault p n cs (type_of ts w) k 0 (type_of ts w).size)) head

  object_old : (c : ℕ) → 0 < c → c ≤ head_of bs → Passes (object_fault ts p n bs c) → Passes (object_fault ts p n cs c)
  object_old c a b h =
      let d = parts (declared ts (cell_at bs c) else fault UndeclaredType 3 (on_cell n c)) _ h in
      let e = parts (leb (c + (type_at ts bs c).size) (head_of bs) else fault ObjectTooLong 3 (on_cell n c)) _ d.1 in
      let w = object_fits ts p n bs c h in
      object_by c (cell_at bs c) (same c (λ e. omega arith) (λ e. omega arith))
      ∙ both _ _ d.0 (both _ _ (tested _ (fault ObjectTooLong 3 (on_cell n c)) (le-leb _ _ (omega arith))) (fields_old (type_at ts bs c) c 0 (type_at ts bs c).size (omega arith) ∙ e.1))

  object_new : Passes (object_fault ts p n cs (head_of bs + 1))
  object_new =
      object_by (head_of bs + 1) t header
      ∙ both _ _ (tested _ (fault UndeclaredType 3 (on_cell n (head_of bs + 1))) known) (both _ _ (tested _ (fault ObjectTooLong 3 (on_cell n (head_of bs + 1))) (le-leb _ _ (omega arith))) (fields_new (type_of ts t) 0 (type_of ts t).size (omega arith)))

  objects_skip : (c m s : ℕ) → m ≤ s → Passes (objects_fault p n cs ts c m s)
  objects_skip c zero s h = refl
  objects_skip c (suc m) zero h = absurd (omega arith)
  objects_skip c (suc m) (suc s) h = objects_skip (c + 1) m s (omega arith)

  starts_skip : (c m s : ℕ) → m ≤ s → list_from ts p n cs c m s ≡ []
  starts_skip c zero s h = refl
  starts_skip c (suc m) zero h = absurd (omega arith)
  starts_skip c (suc m) (suc s) h = starts_skip (c + 1) m s (omega arith)

  last : (k : ℕ) → k ≡ head_of bs + 1 → Passes (objects_fault p n cs ts k (suc (type_of ts t).size) 0)
  last k e =
      subst (λ x. Passes (objects_fault p n cs ts x (suc (type_of ts t).size) 0)) (sym e)
      (objects_both ts p n cs (head_of bs + 1) (type_of ts t).size object_new (ap (λ w. objects_fault p n cs ts (head_of bs + 1 + 1) (type_of ts t).size (type_of ts w).size) header ∙ objects_skip (head_of bs + 1 + 1) (type_of ts t).size (type_of ts t).size (omega arith)))

  last_start : (k : ℕ) → k ≡ head_of bs + 1 → list_from ts p n cs k (suc (type_of ts t).size) 0 ≡ (head_of bs + 1) ∷ []
  last_start k e =
      ap (λ x. list_from ts p n cs x (suc (type_of ts t).size) 0) e
      ∙ ap (λ l. (head_of bs + 1) ∷ l) (ap (λ w. list_from ts p n cs (head_of bs + 1 + 1) (type_of ts t).size (type_of ts w).size) header ∙ starts_skip (head_of bs + 1 + 1) (type_of ts t).size (type_of ts t).size (omega arith))

  walk : (c m s w : ℕ) → 0 < c → c + m ≡ head_of bs + 1 → s ≤ m → w ≡ m + 1 + (type_of ts t).size → Passes (objects_fault p n bs ts c m s) → Passes (objects_fault p n cs ts c w s)
  walk c zero zero w a b d e h =
      let q : w ≡ suc (type_of ts t).size = omega arith in
      subst (λ x. Passes (objects_fault p n cs ts c x 0)) (sym q) (last c (omega arith))
  walk c zero (suc s) w a b d e h = absurd (omega arith)
  walk c (suc m) zero w a b d e h =
      let hh = objects_parts ts p n bs c m h in
      let z = object_fits ts p n bs c hh.0 in
      let q : w ≡ suc (m + 1 + (type_of ts t).size) = omega arith in
      subst (λ x. Passes (objects_fault p n cs ts c x 0)) (sym q)
      (objects_both ts p n cs c (m + 1 + (type_of ts t).size) (object_old c a (omega arith) hh.0)
      (ap (λ x. objects_fault p n cs ts (c + 1) (m + 1 + (type_of ts t).size) (type_of ts x).size) (same c (λ e. omega arith) (λ e. omega arith))
      ∙ walk (c + 1) m (type_at ts bs c).size (m + 1 + (type_of ts t).size) (omega arith) (omega arith) (omega arith) refl hh.1))
  walk c (suc m) (suc s) w a b d e h =
      let q : w ≡ suc (m + 1 + (type_of ts t).size) = omega arith in
      subst (λ x. Passes (objects_fault p n cs ts c x (suc s))) (sym q) (walk (c + 1) m s (m + 1 + (type_of ts t).size) (omega arith) (omega arith) (omega arith) refl h)

  walk_starts : (c m s w : ℕ) → 0 < c → c + m ≡ head_of bs + 1 → s ≤ m → w ≡ m + 1 + (type_of ts t).size → Passes (objects_fault p n bs ts c m s) → list_from ts p n cs c w s ≡ list_from ts p n bs c m s ++ (head_of bs + 1) ∷ []
  walk_starts c zero zero w a b d e h =
      let q : w ≡ suc (type_of ts t).size = omega arith in
      ap (λ x. list_from ts p n cs c x 0) q ∙ last_start c (omega arith)
  walk_starts c zero (suc s) w a b d e h = absurd (omega arith)
  walk_starts c (suc m) zero w a b d e h =
      let hh = objects_parts ts p n bs c m h in
      let z = object_fits ts p n bs c hh.0 in
      let q : w ≡ suc (m + 1 + (type_of ts t).size) = omega arith in
      ap (λ x. list_from ts p n cs c x 0) q
      ∙ ap (λ l. c ∷ l)
      (ap (λ x. list_from ts p n cs (c + 1) (m + 1 + (type_of ts t).size) (type_of ts x).size) (same c (λ e. omega arith) (λ e. omega arith))
      ∙ walk_starts (c + 1) m (type_at ts bs c).size (m + 1 + (type_of ts t).size) (omega arith) (omega arith) (omega arith) refl hh.1)
  walk_starts c (suc m) (suc s) w a b d e h =
      let q : w ≡ suc (m + 1 + (type_of ts t).size) = omega arith in
      ap (λ x. list_from ts p n cs c x (suc s)) q ∙ walk_starts (c + 1) m s (m + 1 + (type_of ts t).size) (omega arith) (omega arith) (omega arith) refl h

  rest_new : (c m : ℕ) → head_of bs + 1 + (type_of ts t).size < c → c + m ≤ 64 → Passes (unused_fault n cs c m)
  rest_new c zero a b = refl
  rest_new c (suc m) a b =
      both _ _ (tested _ (fault NotZero 3 (on_cell n c)) (eq-eqb _ 0 (same c (λ e. omega arith) (λ e. omega arith) ∙ zeros c (omega arith) (omega arith)))) (rest_new (c + 1) m (omega arith) (omega arith))

  first_new : Passes (objects_fault p n bs ts 1 (head_of bs) 0) → Passes (first_fault p n cs ts)
  first_new h =
      ap (λ u. (leb u 63 else fault HeadTooLarge 3 (on_cell n 0)) >> (objects_fault p n cs ts 1 u 0 >> unused_fault n cs (u + 1) (63 - u))) head
      ∙ both _ _ (tested _ (fault HeadTooLarge 3 (on_cell n 0)) (le-leb _ _ room))
      (both _ _ (walk 1 (head_of bs) 0 (head_of bs + 1 + (type_of ts t).size) (omega arith) (omega arith) (omega arith) refl h) (rest_new (head_of bs + 1 + (type_of ts t).size + 1) (63 - (head_of bs + 1 + (type_of ts t).size)) (omega arith) (omega arith)))

  starts_new : Passes (objects_fault p n bs ts 1 (head_of bs) 0) → starts ts p n cs ≡ starts ts p n bs ++ (head_of bs + 1) ∷ []
  starts_new h =
      ap (λ u. list_from ts p n cs 1 u 0) head ∙ walk_starts 1 (head_of bs) 0 (head_of bs + 1 + (type_of ts t).size) (omega arith) (omega arith) (omega arith) refl h

pub add_kept : (ts : List Descriptor) (p n : ℕ) (bs : List ℕ) (t : ℕ) → length bs ≡ 512 → length ts ≤ 32 → first_fault p n bs ts ≡ Ok tt → declared ts t ≡ true → leb (1 + (type_of ts t).size) (63 - head_of bs) ≡ true → Keeps ts p n bs (put_object t (type_of ts t).size bs) × (starts_at ts (put_object t (type_of ts t).size bs) (head_of bs + 1) ≡ true)
add_kept ts p n bs t l few h known free =
    let z = (type_of ts t).size in
    let mid = put_cell bs (head_of bs + 1) t in
    let cs = put_object t z bs in
    let g = sound ts p n bs h in
    let fits = leb-true (1 + z) (63 - head_of bs) free in
    let room : head_of bs + 1 + z ≤ 63 = omega arith in
    let small = leb-true t (length ts) (and_parts (ltb 0 t) (leb t (length ts)) known).1 in
    let long : length mid ≡ 512 = length_put_cell bs (head_of bs + 1) t ∙ l in
    let same : (i : ℕ) → (i ≡ 0 → ⊥) → (i ≡ head_of bs + 1 → ⊥) → cell_at cs i ≡ cell_at bs i =
    λ i x y. put_beside mid 0 (head_of bs + 1 + z) i (omega arith) x ∙ put_beside bs (head_of bs + 1) t i (omega arith) y in
    let head : head_of cs ≡ head_of bs + 1 + z = put_read mid 0 (head_of bs + 1 + z) (omega arith) (omega arith) in
    let header : cell_at cs (head_of bs + 1) ≡ t =
    put_beside mid 0 (head_of bs + 1 + z) (head_of bs + 1) (omega arith) (λ e. omega arith) ∙ put_read bs (head_of bs + 1) t (omega arith) (omega arith) in
    let new = starts_new ts p n bs cs t same head header room known g.zeros g.objects in
    let lawful = first_new ts p n bs cs t same head header room known g.zeros g.objects in (
      record {
        lawful = lawful;
        started = λ k e. agree ts p n cs lawful k ∙ ap (among k) new ∙ among_left k (starts ts p n bs) ((head_of bs + 1) ∷ []) (sym (agree ts p n bs h k) ∙ e);
      },
      agree ts p n cs lawful (head_of bs + 1) ∙ ap (among (head_of bs + 1)) new ∙ among_last (head_of bs + 1) (starts ts p n bs),
    )
