-- A page with no fault, as cells. Assumes nothing.
use Rattle.std.proofs.Common.{◌≡◌, ℕ, zero, suc, ◌+◌, ◌-◌, ◌/◌, ◌%◌, ◌^◌, ◌<◌, ◌≤◌, Bool, true, false, not, ◌||◌, eqb, leb, List, [], ◌∷◌, length, get_or, drop, Ok, Err, sym, refl, ap, ◌∙◌, ⊎_elim, arith}
use Rattle.std.proofs.lemmas.Nat.{shr-shr}
use Rattle.std.proofs.lemmas.List.FromFn.{length-map-range_with_len, get_or-map-range_with_len}
use Rattle.std.proofs.lemmas.List.{get_or_past}
use Rattle.std.proofs.lemmas.Bool.{both_ways, cases_lt, cond-true, eqb-true, leb-true}
use Rattle.fault.specs.declared.kinds.Fault.{Fault}
use Rattle.fault.specs.Refusals.{Checked, ◌>>=◌, ◌>>◌, ◌else◌}
use Rattle.page.specs.Cells.{cell_at}
use Rattle.page.specs.Descriptors.{no_type, linked, declared}
use Rattle.page.specs.Form.{head_of, field_at, type_at, links_fault, unused_fault, object_at, objects_fault, first_fault}
use Rattle.page.specs.Links.{is_link}
use Rattle.page.specs.Walks.{kind_of, links_from, link_cells, fields_from, field_cells, starts_from, start_cells, cells_of}
use Rattle.page.specs.declared.descriptor.Descriptor.{Descriptor}
use Rattle.frame.specs.Laws.{ValidEnds, ValidLinks, ValidStarts}
use Rattle.frame.proofs.Fields.{bit_of}
use Rattle.frame.proofs.Swizzles.{starts_none}
use Rattle.frame.proofs.Walks.{links_zero, starts_zero}

pub length_cells_of : (bs : List ℕ) → length (cells_of bs) ≡ 64
unfolding cells_of
length_cells_of bs = length-map-range_with_len (cell_at bs) 0 64

pub at_cells_of : (bs : List ℕ) (k : ℕ) → k < 64 → get_or (cells_of bs) k 0 ≡ cell_at bs k
unfolding cells_of
at_cells_of bs k h = get_or-map-range_with_len (cell_at bs) 0 64 k k 0 h (omega arith)

-- what is granted passed each test on the way
passed : {A : Type 0} (b : Bool) (e : Fault) (r : Checked A) (v : A) → ((b else e) >> r) ≡ Ok v → (b ≡ true) × (r ≡ Ok v)
passed true e r v h = (refl, h)
passed false e r v h = let z : ◌≡◌ {A = ℕ} 0 1 = cc in absurd (omega arith)

after : {A : Type 0} (r : Checked (Unit {0})) (s : Checked A) (v : A) → (r >> s) ≡ Ok v → (r ≡ Ok tt) × (s ≡ Ok v)
after (Ok x) s v h = (refl, h)
after (Err e) s v h = let z : ◌≡◌ {A = ℕ} 0 1 = cc in absurd (omega arith)

bound : {A B : Type 0} (r : Checked A) (f : A → Checked B) (v : B) → (r >>= f) ≡ Ok v → (x : A) × ((r ≡ Ok x) × (f x ≡ Ok v))
bound (Ok x) f v h = (x, (refl, h))
bound (Err e) f v h = let z : ◌≡◌ {A = ℕ} 0 1 = cc in absurd (omega arith)

unused : (n : ℕ) (bs : List ℕ) (k m : ℕ) → unused_fault n bs k m ≡ Ok tt → (j : ℕ) → k ≤ j → j < k + m → cell_at bs j ≡ 0
unused n bs k zero e j l h = absurd (omega arith)
unused n bs k (suc m) e j l h =
    let w = passed (eqb (cell_at bs k) 0) _ (unused_fault n bs (k + 1) m) tt e in
    ⊎_elim
    (λ (q : k < j). unused n bs (k + 1) m w.1 j (omega arith) (omega arith))
    (λ (q : j ≤ k). let i : j ≡ k = omega arith in ap (cell_at bs) i ∙ eqb-true _ _ w.0)
    (cases_lt k j)

imply : (a b : Bool) → (not a || b) ≡ true → a ≡ true → b ≡ true
imply true b e h = e
imply false b e h = absurd (both_ways _ refl h)

module _ (p n : ℕ) (bs : List ℕ) where
  -- the link fields of an object with no fault
  fields_ok : (d : Descriptor) (k f m : ℕ) → links_fault p n bs d k f m ≡ Ok tt → (j : ℕ) → f ≤ j → j < f + m → linked d j ≡ true → is_link p (field_at bs k j) ≡ true
  fields_ok d k f zero e j l h y = absurd (omega arith)
  fields_ok d k f (suc m) e j l h y =
      let w = passed (not (linked d f) || is_link p (field_at bs k f)) _ (links_fault p n bs d k (f + 1) m) tt e in
      ⊎_elim
      (λ (q : f < j). fields_ok d k (f + 1) m w.1 j (omega arith) (omega arith) y)
      (λ (q : j ≤ f).
      let i : j ≡ f = omega arith in
      ap (λ a. is_link p (field_at bs k a)) i ∙ imply (linked d f) _ w.0 (ap (linked d) (sym i) ∙ y))
      (cases_lt f j)

  module _ (ts : List Descriptor) where
    -- an object with no fault, of size s at cell k
    record Object (k s : ℕ) : Type 0 where
      size : s ≡ (kind_of ts (cell_at bs k)).size
      within : k + s ≤ head_of bs
      links : (j : ℕ) → j < (kind_of ts (cell_at bs k)).size → linked (kind_of ts (cell_at bs k)) j ≡ true → is_link p (field_at bs k j) ≡ true

    object : (k s : ℕ) → object_at p n bs ts k ≡ Ok s → Object k s
    object k s e =
        let d = type_at ts bs k in
        let a = passed (declared ts (cell_at bs k)) _ _ s e in
        let b = passed (leb (k + d.size) (head_of bs)) _ _ s a.1 in
        let c = after (links_fault p n bs d k 0 d.size) (Ok d.size) s b.1 in
        let i : d.size ≡ s = let o = c.1 in cc in
        let t : kind_of ts (cell_at bs k) ≡ d = cond-true (declared ts (cell_at bs k)) d no_type a.0 in
        let z : (kind_of ts (cell_at bs k)).size ≡ d.size = ap (λ (x : Descriptor). x.size) t in
        record {
          size = sym (z ∙ i);
          within = omega (arith, leb-true _ _ b.0, i);
          links = λ j h y. fields_ok d k 0 d.size c.0 j (omega arith) (omega (arith, z)) (ap (λ (x : Descriptor). linked x j) (sym t) ∙ y);
        }

    -- the cells ys are those from c on
    abbrev Cells : ℕ → List ℕ → Type 0
    Cells c ys = (j : ℕ) → j < length ys → get_or ys j 0 ≡ cell_at bs (c + j)

    rest : (c y : ℕ) (ys : List ℕ) → Cells c (y ∷ ys) → Cells (c + 1) ys
    rest c y ys is j h = let a : c + suc j ≡ c + 1 + j = omega arith in is (suc j) (omega arith) ∙ ap (cell_at bs) a

    first : (c y : ℕ) (ys : List ℕ) → Cells c (y ∷ ys) → y ≡ cell_at bs c
    first c y ys is = let a : c + 0 ≡ c = omega arith in is 0 (omega arith) ∙ ap (cell_at bs) a

    -- the walk is at a header when it comes to the end
    ends_from : (c m s : ℕ) (ys : List ℕ) → c + m ≡ head_of bs + 1 → s ≤ m → m ≤ length ys → Cells c ys → objects_fault p n bs ts c m s ≡ Ok tt → get_or (fields_from ts s ys) m false ≡ false
    ends_from c m s [] h l q is e = refl
    ends_from c zero zero (y ∷ ys) h l q is e = refl
    ends_from c zero (suc s) (y ∷ ys) h l q is e = absurd (omega arith)
    ends_from c (suc m) zero (y ∷ ys) h l q is e =
        let t = bound (object_at p n bs ts c) (λ s. objects_fault p n bs ts (c + 1) m s) tt e in
        let s = t.0 in
        let o = object c s t.1.0 in
        let i : (kind_of ts y).size ≡ s = ap (λ x. (kind_of ts x).size) (first c y ys is) ∙ sym o.size in
        ap (λ k. get_or (fields_from ts k ys) m false) i
        ∙ ends_from (c + 1) m s ys (omega arith) (omega (arith, o.within)) (omega arith) (rest c y ys is) t.1.1
    ends_from c (suc m) (suc s) (y ∷ ys) h l q is e = ends_from (c + 1) m s ys (omega arith) (omega arith) (omega arith) (rest c y ys is) e

    -- an object starts only where the walk found one, or among the unused cells, and there it does not
    starts_ok : (c m s : ℕ) (ys : List ℕ) → c + m ≡ head_of bs + 1 → s ≤ m → Cells c ys → ((j : ℕ) → m ≤ j → get_or ys j 0 ≡ 0) → objects_fault p n bs ts c m s ≡ Ok tt → (i : ℕ) → get_or (starts_from ts s ys) i false ≡ true → (declared ts (get_or ys i 0) ≡ true) × (c + i + (kind_of ts (get_or ys i 0)).size ≤ head_of bs)
    starts_ok c m s [] h l is none e i y = absurd (both_ways _ refl y)
    starts_ok c zero s (x ∷ ys) h l is none e i y = absurd (both_ways _ (starts_none ts s (x ∷ ys) (λ j. none j (omega arith)) i) y)
    starts_ok c (suc m) zero (x ∷ ys) h l is none e zero y =
        let t = bound (object_at p n bs ts c) (λ s. objects_fault p n bs ts (c + 1) m s) tt e in
        let o = object c t.0 t.1.0 in
        let q : (kind_of ts x).size ≡ t.0 = ap (λ v. (kind_of ts v).size) (first c x ys is) ∙ sym o.size in
        (y, omega (arith, o.within, q))
    starts_ok c (suc m) zero (x ∷ ys) h l is none e (suc i) y =
        let t = bound (object_at p n bs ts c) (λ s. objects_fault p n bs ts (c + 1) m s) tt e in
        let o = object c t.0 t.1.0 in
        let q : (kind_of ts x).size ≡ t.0 = ap (λ v. (kind_of ts v).size) (first c x ys is) ∙ sym o.size in
        let r = starts_ok (c + 1) m (kind_of ts x).size ys (omega arith) (omega (arith, o.within, q)) (rest c x ys is) (λ j l. none (suc j) (omega arith)) (ap (λ s. objects_fault p n bs ts (c + 1) m s) q ∙ t.1.1) i y in
        (r.0, omega (arith, r.1))
    starts_ok c (suc m) (suc s) (x ∷ ys) h l is none e zero y = absurd (both_ways _ refl y)
    starts_ok c (suc m) (suc s) (x ∷ ys) h l is none e (suc i) y =
        let r = starts_ok (c + 1) m s ys (omega arith) (omega arith) (rest c x ys is) (λ j q. none (suc j) (omega arith)) e i y in
        (r.0, omega (arith, r.1))

    links_ok : (c m s b : ℕ) (ys : List ℕ) → c + m ≡ head_of bs + 1 → s ≤ m → Cells c ys → ((j : ℕ) → m ≤ j → get_or ys j 0 ≡ 0) → objects_fault p n bs ts c m s ≡ Ok tt → ((j : ℕ) → j < s → bit_of b j ≡ true → is_link p (cell_at bs (c + j)) ≡ true) → (i : ℕ) → get_or (links_from ts s b ys) i false ≡ true → is_link p (get_or ys i 0) ≡ true
    links_ok c m s b [] h l is none e ok i y = absurd (both_ways _ refl y)
    links_ok c zero s b (x ∷ ys) h l is none e ok i y = ap (is_link p) (none i (omega arith))
    links_ok c (suc m) zero b (x ∷ ys) h l is none e ok zero y = absurd (both_ways _ refl y)
    links_ok c (suc m) zero b (x ∷ ys) h l is none e ok (suc i) y =
        let t = bound (object_at p n bs ts c) (λ s. objects_fault p n bs ts (c + 1) m s) tt e in
        let o = object c t.0 t.1.0 in
        let head : x ≡ cell_at bs c = first c x ys is in
        let q : (kind_of ts x).size ≡ t.0 = ap (λ v. (kind_of ts v).size) head ∙ sym o.size in
        links_ok (c + 1) m (kind_of ts x).size (kind_of ts x).mask ys (omega arith) (omega (arith, o.within, q)) (rest c x ys is)
        (λ j l. none (suc j) (omega arith))
        (ap (λ s. objects_fault p n bs ts (c + 1) m s) q ∙ t.1.1)
        (λ j l v. o.links j (omega (arith, l, ap (λ v. (kind_of ts v).size) head)) (ap (λ v. linked (kind_of ts v) j) (sym head) ∙ v))
        i y
    links_ok c (suc m) (suc s) b (x ∷ ys) h l is none e ok zero y =
        let z : b / 2 ^ 0 ≡ b = omega arith in
        ap (is_link p) (is 0 (omega arith)) ∙ ok 0 (omega arith) (ap (λ v. eqb (v % 2) 1) z ∙ y)
    links_ok c (suc m) (suc s) b (x ∷ ys) h l is none e ok (suc i) y =
        links_ok (c + 1) m s (b / 2) ys (omega arith) (omega arith) (rest c x ys is)
        (λ j q. none (suc j) (omega arith))
        e
        (λ j q v.
        let a : c + suc j ≡ c + 1 + j = omega arith in
        let d : 1 + j ≡ suc j = omega arith in
        ap (λ k. is_link p (cell_at bs k)) (sym a) ∙ ok (suc j) (omega arith) (ap (λ v. eqb (v % 2) 1) (sym (shr-shr b 1 j ∙ ap (λ k. b / 2 ^ k) d)) ∙ v))
        i y

-- the cells after the head
fields_drop : (ts : List Descriptor) (xs : List ℕ) (i : ℕ) → get_or (field_cells ts xs) (i + 1) false ≡ get_or (fields_from ts 0 (drop 1 xs)) i false
fields_drop ts [] i = refl
fields_drop ts (x ∷ xs) i = let e : i + 1 ≡ suc i = omega arith in ap (λ k. get_or (field_cells ts (x ∷ xs)) k false) e

links_drop : (ts : List Descriptor) (xs : List ℕ) (i : ℕ) → get_or (link_cells ts xs) (suc i) false ≡ get_or (links_from ts 0 0 (drop 1 xs)) i false
links_drop ts [] i = refl
links_drop ts (x ∷ xs) i = refl

starts_drop : (ts : List Descriptor) (xs : List ℕ) (i : ℕ) → get_or (start_cells ts xs) (suc i) false ≡ get_or (starts_from ts 0 (drop 1 xs)) i false
starts_drop ts [] i = refl
starts_drop ts (x ∷ xs) i = refl

get_or-drop_one : (xs : List ℕ) (j : ℕ) → get_or (drop 1 xs) j 0 ≡ get_or xs (suc j) 0
get_or-drop_one [] j = refl
get_or-drop_one (x ∷ xs) j = refl

length_drop_one : (xs : List ℕ) → length xs ≡ 64 → length (drop 1 xs) ≡ 63
length_drop_one [] e = absurd (omega arith)
length_drop_one (x ∷ xs) e = omega arith

cells_after : (bs : List ℕ) (j : ℕ) → j < length (drop 1 (cells_of bs)) → get_or (drop 1 (cells_of bs)) j 0 ≡ cell_at bs (1 + j)
cells_after bs j h =
    let n = length_drop_one (cells_of bs) (length_cells_of bs) in
    let a : suc j ≡ 1 + j = omega arith in
    get_or-drop_one (cells_of bs) j ∙ at_cells_of bs (suc j) (omega arith) ∙ ap (cell_at bs) a

-- the parts of a page with no fault
parts : (ts : List Descriptor) (p n : ℕ) (bs : List ℕ) → first_fault p n bs ts ≡ Ok tt → (head_of bs ≤ 63) × (objects_fault p n bs ts 1 (head_of bs) 0 ≡ Ok tt) × (unused_fault n bs (head_of bs + 1) (63 - head_of bs) ≡ Ok tt)
parts ts p n bs e =
    let a = passed (leb (head_of bs) 63) _ _ tt e in
    let b = after (objects_fault p n bs ts 1 (head_of bs) 0) (unused_fault n bs (head_of bs + 1) (63 - head_of bs)) tt a.1 in
    (leb-true (head_of bs) 63 a.0, b.0, b.1)

pub valid_ends : ValidEnds
valid_ends ts p n bs e =
    let u : ℕ = head_of bs in
    let xs = cells_of bs in
    let w = parts ts p n bs e in
    let long = length_cells_of bs in
    let long' = length_drop_one xs long in (
      omega arith,
      fields_drop ts xs u ∙ ends_from p n bs ts 1 u 0 (drop 1 xs) (omega arith) (omega arith) (omega (arith, w.0)) (cells_after bs) w.1,
      λ k l. ⊎_elim
          (λ (q : k < 64). at_cells_of bs k q ∙ unused n bs (u + 1) (63 - u) w.2 k l (omega (arith, w.0)))
          (λ (q : 64 ≤ k). get_or_past xs k 0 (omega arith))
          (cases_lt k 64),
    )

-- zero after the used cells
zeros_after : (ts : List Descriptor) (p n : ℕ) (bs : List ℕ) → first_fault p n bs ts ≡ Ok tt → (j : ℕ) → head_of bs ≤ j → get_or (drop 1 (cells_of bs)) j 0 ≡ 0
zeros_after ts p n bs e j h = get_or-drop_one (cells_of bs) j ∙ (valid_ends ts p n bs e).2 (suc j) (omega arith)

pub valid_links : ValidLinks
valid_links ts p n bs zero e y = absurd (both_ways _ (links_zero ts (cells_of bs)) y)
valid_links ts p n bs (suc i) e y =
    let xs = cells_of bs in
    ap (is_link p) (sym (get_or-drop_one xs i))
    ∙ links_ok p n bs ts 1 (head_of bs) 0 0 (drop 1 xs) (omega arith) (omega arith) (cells_after bs) (zeros_after ts p n bs e) (parts ts p n bs e).1 (λ j q. absurd (omega arith)) i (sym (links_drop ts xs i) ∙ y)

pub valid_starts : ValidStarts
valid_starts ts p n bs zero e y = absurd (both_ways _ (starts_zero ts (cells_of bs)) y)
valid_starts ts p n bs (suc k) e y =
    let xs = cells_of bs in
    let at = get_or-drop_one xs k in
    let r = starts_ok p n bs ts 1 (head_of bs) 0 (drop 1 xs) (omega arith) (omega arith) (cells_after bs) (zeros_after ts p n bs e) (parts ts p n bs e).1 k (sym (starts_drop ts xs k) ∙ y) in
    (omega arith, ap (declared ts) (sym at) ∙ r.0, omega (arith, r.1, ap (λ x. (kind_of ts x).size) at))
