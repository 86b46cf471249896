-- The fields of an object. Assumes nothing.
use Rattle.std.proofs.Common.{◌≡◌, ℕ, zero, suc, ◌+◌, ◌/◌, ◌%◌, ◌^◌, ◌<◌, Bool, true, false, cond, eqb, ltb, List, [], ◌∷◌, length, get_or, set, refl, ap, ◌∙◌, arith}
use Rattle.std.proofs.lemmas.Nat.{shr-shr}
use Rattle.std.proofs.lemmas.Bool.{both_ways, and_parts, ltb-true}
use Rattle.page.specs.Descriptors.{linked}
use Rattle.page.specs.Walks.{kind_of, links_from, link_cells, fields_from, field_cells, starts_from, start_cells}
use Rattle.page.specs.declared.descriptor.Descriptor.{Descriptor}
use Rattle.frame.specs.Links.{map_where, has_field, field_value}
use Rattle.frame.specs.Laws.{FieldOf}
use Rattle.frame.proofs.Swizzles.{places_set, set_where}

-- bit f of a mask
abbrev pub bit_of : ℕ → ℕ → Bool
bit_of m f = eqb (m / 2 ^ f % 2) 1

module _ (ts : List Descriptor) where
  inside : (k m : ℕ) (ys : List ℕ) (f : ℕ) → f < k → f < length ys → (get_or (fields_from ts k ys) f false ≡ true) × (get_or (links_from ts k m ys) f false ≡ bit_of m f)
  inside k m [] f h l = absurd (omega arith)
  inside zero m (y ∷ ys) f h l = absurd (omega arith)
  inside (suc k) m (y ∷ ys) zero h l =
      let z : m ≡ m / 2 ^ 0 = omega arith in
      (refl, ap (λ v. eqb (v % 2) 1) z)
  inside (suc k) m (y ∷ ys) (suc f) h l =
      let r = inside k (m / 2) ys f (omega arith) (omega arith) in
      let b : 1 + f ≡ suc f = omega arith in
      (r.0, r.1 ∙ ap (λ v. eqb (v % 2) 1) (shr-shr m 1 f ∙ ap (λ k. m / 2 ^ k) b))

  field_from : (k m : ℕ) (ys : List ℕ) (c f i : ℕ) → i ≡ c + 1 + f → get_or (starts_from ts k ys) c false ≡ true → f < (kind_of ts (get_or ys c 0)).size → i < length ys → (get_or (fields_from ts k ys) i false ≡ true) × (get_or (links_from ts k m ys) i false ≡ linked (kind_of ts (get_or ys c 0)) f)
  field_from k m [] c f i e s h l = absurd (omega arith)
  field_from k m (y ∷ ys) c f zero e s h l = absurd (omega arith)
  field_from zero m (y ∷ ys) zero f (suc i) e s h l = let q : i ≡ f = omega arith in rw q (inside (kind_of ts y).size (kind_of ts y).mask ys f h (omega arith))
  field_from (suc k) m (y ∷ ys) zero f (suc i) e s h l = absurd (both_ways _ refl s)
  field_from zero m (y ∷ ys) (suc c) f (suc i) e s h l = field_from (kind_of ts y).size (kind_of ts y).mask ys c f i (omega arith) s h (omega arith)
  field_from (suc k) m (y ∷ ys) (suc c) f (suc i) e s h l = field_from k (m / 2) ys c f i (omega arith) s h (omega arith)

  at_field : (xs : List ℕ) (c f i : ℕ) → i ≡ c + 1 + f → get_or (start_cells ts xs) c false ≡ true → f < (kind_of ts (get_or xs c 0)).size → i < length xs → (get_or (field_cells ts xs) i false ≡ true) × (get_or (link_cells ts xs) i false ≡ linked (kind_of ts (get_or xs c 0)) f)
  at_field [] c f i e s h l = absurd (omega arith)
  at_field (x ∷ xs) zero f i e s h l = absurd (both_ways _ refl s)
  at_field (x ∷ xs) (suc c) f zero e s h l = absurd (omega arith)
  at_field (x ∷ xs) (suc c) f (suc i) e s h l = field_from 0 0 xs c f i (omega arith) s h (omega arith)

pub field_of : FieldOf
field_of ts xs c f s h l = at_field ts xs c f (c + 1 + f) refl s h l

-- a field of an object is set
pub field_set : (ts : List Descriptor) (g : ℕ → ℕ) (xs : List ℕ) (c f v : ℕ) → length xs ≡ 64 → has_field ts xs c f ≡ true → map_where g (link_cells ts (set xs (c + 1 + f) v)) (set xs (c + 1 + f) v) ≡ set (map_where g (link_cells ts xs) xs) (c + 1 + f) (field_value ts xs g c f v)
field_set ts g xs c f v n e =
    let i = c + 1 + f in
    let p = and_parts (get_or (start_cells ts xs) c false) _ e in
    let q = and_parts (ltb f (kind_of ts (get_or xs c 0)).size) (ltb i 64) p.1 in
    let w = field_of ts xs c f p.0 (ltb-true _ _ q.0) (omega (arith, ltb-true i 64 q.1)) in
    ap (λ bs. map_where g bs (set xs i v)) (places_set ts xs i v w.0).0
    ∙ set_where g (link_cells ts xs) xs i v
    ∙ ap (λ b. set (map_where g (link_cells ts xs) xs) i (cond b (g v) v)) w.1
