-- Cells put among the bytes, and where a page links and ends after that. Assumes nothing.
use Rattle.std.proofs.Common.{◌≡◌, ℕ, zero, suc, ◌+◌, ◌-◌, ◌*◌, ◌/◌, ◌^◌, ◌<◌, ◌≤◌, Bool, true, false, cond, not, ◌&&◌, ◌||◌, eqb, ◌⊎◌, List, [], ◌∷◌, ◌++◌, length, get_or, take, drop, set, sym, refl, ap, ◌∙◌, subst, inl, inr, append_assoc, arith}
use Rattle.std.specs.List.{flat_map}
use Rattle.std.proofs.lemmas.List.{get_or_past}
use Rattle.std.proofs.lemmas.Bool.{both_ways, cases_lt, or_cases, or_left, or_right, and_parts, not-true, eq-eqb, eqb-true, or_from, and_right, cases_eq, ne_eqb}
use Rattle.page.specs.Cells.{bytes_of, put_at, put_cell}
use Rattle.page.specs.Walks.{kind_of, odd, links_from, link_cells, fields_from, field_cells, leads, any_leads, links_to, page_of}
use Rattle.page.specs.declared.descriptor.Descriptor.{Descriptor}
use Rattle.page.proofs.Rounds.{put_in}
use Rattle.address.specs.Pairing.{Most}
use Rattle.frame.specs.Links.{address, pointer, swizzled, unswizzled}
use Rattle.frame.specs.Laws.{EndsAt}
use Rattle.frame.proofs.Packs.{length_joined}
use Rattle.frame.proofs.Swizzles.{cond_same, length_where, at_where, same_places, same_places_back}

pub length_unswizzled : (ts : List Descriptor) (pages xs : List ℕ) → length (unswizzled ts pages xs) ≡ length xs
length_unswizzled ts pages xs = length_where (pointer pages) (link_cells ts xs) xs

length_fields_from : (ts : List Descriptor) (k : ℕ) (xs : List ℕ) → length (fields_from ts k xs) ≡ length xs
length_fields_from ts k [] = refl
length_fields_from ts zero (x ∷ xs) = ap suc (length_fields_from ts (kind_of ts x).size xs)
length_fields_from ts (suc k) (x ∷ xs) = ap suc (length_fields_from ts k xs)

length_fields : (ts : List Descriptor) (xs : List ℕ) → length (field_cells ts xs) ≡ length xs
length_fields ts [] = refl
length_fields ts (x ∷ xs) = ap suc (length_fields_from ts 0 xs)

-- a field is one of the cells
pub field_within : (ts : List Descriptor) (xs : List ℕ) (c : ℕ) → get_or (field_cells ts xs) c false ≡ true → c < length xs
field_within ts xs c e = by_lt (cases_lt c (length xs))
  where
    by_lt : (c < length xs) ⊎ (length xs ≤ c) → c < length xs
    by_lt (inl a) = a
    by_lt (inr b) = absurd (both_ways (get_or (field_cells ts xs) c false) (get_or_past (field_cells ts xs) c false (omega (arith, length_fields ts xs))) e)

take_past : (ys r : List ℕ) (k m : ℕ) → m ≡ length ys + k → take m (ys ++ r) ≡ ys ++ take k r
take_past [] r k m e = let q : m ≡ k = omega arith in ap (λ j. take j r) q
take_past (y ∷ ys) r k zero e = absurd (omega arith)
take_past (y ∷ ys) r k (suc m) e = ap (λ l. y ∷ l) (take_past ys r k m (omega arith))

drop_past : (ys r : List ℕ) (k m : ℕ) → m ≡ length ys + k → drop m (ys ++ r) ≡ drop k r
drop_past [] r k m e = let q : m ≡ k = omega arith in ap (λ j. drop j r) q
drop_past (y ∷ ys) r k zero e = absurd (omega arith)
drop_past (y ∷ ys) r k (suc m) e = drop_past ys r k m (omega arith)

put_at_lem : (xs : List ℕ) (c v : ℕ) → c < length xs → page_of (set xs c v) ≡ put_at (page_of xs) c v
unfolding put_at
put_at_lem [] c v h = absurd (omega arith)
put_at_lem (x ∷ xs) zero v h = refl
put_at_lem (x ∷ xs) (suc c) v h =
    let J : List ℕ = flat_map bytes_of xs in
    let X : List ℕ = bytes_of x in
    let R : List ℕ = bytes_of v ++ drop (8 * c + 8) J in
    let d : drop (8 * suc c + 8) (X ++ J) ≡ drop (8 * c + 8) J = drop_past X J (8 * c + 8) (8 * suc c + 8) (omega arith) in
    let t : take (8 * suc c) (X ++ J) ≡ X ++ take (8 * c) J = take_past X J (8 * c) (8 * suc c) (omega arith) in
    ap (λ l. X ++ l) (put_at_lem xs c v (omega arith))
    ∙ sym (append_assoc X (take (8 * c) J) R)
    ∙ ap (λ a. a ++ R) (sym t)
    ∙ ap (λ l. take (8 * suc c) (X ++ J) ++ (bytes_of v ++ l)) (sym d)

-- a cell set is a cell put among the bytes
pub put_cell_lem : (xs : List ℕ) (c v : ℕ) → c < length xs → page_of (set xs c v) ≡ put_cell (page_of xs) c v
put_cell_lem xs c v h = put_at_lem xs c v h ∙ sym (put_in (page_of xs) c v (omega (arith, length_joined xs)))

-- the head and another cell, in either order
pub set_head : (xs : List ℕ) (c u h : ℕ) → 0 < c → set (set xs 0 u) c h ≡ set (set xs c h) 0 u
set_head xs zero u h l = absurd (omega arith)
set_head [] (suc c) u h l = refl
set_head (x ∷ xs) (suc c) u h l = refl

-- where a page links after a field is set
pub any_set : (n : ℕ) (bs : List Bool) (xs : List ℕ) (c v : ℕ) → any_leads n bs (set xs c v) ≡ true → (any_leads n bs xs ≡ true) ⊎ ((get_or bs c false ≡ true) × (leads n v ≡ true))
any_set n [] xs c v e = absurd (both_ways _ refl e)
any_set n (b ∷ bs) [] c v e = absurd (both_ways _ refl e)
any_set n (b ∷ bs) (x ∷ xs) zero v e = by (or_cases (b && leads n v) (any_leads n bs xs) e)
  where
    by : ((b && leads n v) ≡ true) ⊎ (any_leads n bs xs ≡ true) → (((b && leads n x) || any_leads n bs xs) ≡ true) ⊎ ((b ≡ true) × (leads n v ≡ true))
    by (inl a) = inr (and_parts b (leads n v) a)
    by (inr a) = inl (or_right (b && leads n x) _ a)
any_set n (b ∷ bs) (x ∷ xs) (suc c) v e = by (λ a. any_set n bs xs c v a) (or_cases (b && leads n x) (any_leads n bs (set xs c v)) e)
  where
    more : (any_leads n bs xs ≡ true) ⊎ ((get_or bs c false ≡ true) × (leads n v ≡ true)) → (((b && leads n x) || any_leads n bs xs) ≡ true) ⊎ ((get_or bs c false ≡ true) × (leads n v ≡ true))
    more (inl a) = inl (or_right (b && leads n x) _ a)
    more (inr a) = inr a

    by : (any_leads n bs (set xs c v) ≡ true → (any_leads n bs xs ≡ true) ⊎ ((get_or bs c false ≡ true) × (leads n v ≡ true))) → ((b && leads n x) ≡ true) ⊎ (any_leads n bs (set xs c v) ≡ true) → (((b && leads n x) || any_leads n bs xs) ≡ true) ⊎ ((get_or bs c false ≡ true) × (leads n v ≡ true))
    by rest (inl a) = inl (or_left (b && leads n x) _ a)
    by rest (inr a) = more (rest a)

pub leads_to : (n v : ℕ) → leads n v ≡ true → (v ≡ 0 → ⊥) × (v / 64 ≡ n)
leads_to n v e =
    let p = and_parts (not (eqb v 0)) (eqb (v / 64) n) e in
    ((λ z. both_ways (eqb v 0) (not-true (eqb v 0) p.0) (eq-eqb v 0 z)), eqb-true (v / 64) n p.1)

-- zeros lead nowhere
any_zeros : (n : ℕ) (bs : List Bool) (xs : List ℕ) → ((j : ℕ) → get_or xs j 0 ≡ 0) → any_leads n bs xs ≡ false
any_zeros n [] xs z = refl
any_zeros n (b ∷ bs) [] z = refl
any_zeros n (b ∷ bs) (x ∷ xs) z =
    or_from (b && leads n x) (any_leads n bs xs) (and_right b (leads n x) (ap (leads n) (z 0))) (any_zeros n bs xs (λ j. z (suc j)))

-- an object added has no links yet
any_grown : (ts : List Descriptor) (n k m : ℕ) (xs : List ℕ) (c h : ℕ) → get_or (fields_from ts k xs) c false ≡ false → ((j : ℕ) → c ≤ j → get_or xs j 0 ≡ 0) → any_leads n (links_from ts k m (set xs c h)) (set xs c h) ≡ any_leads n (links_from ts k m xs) xs
any_grown ts n k m [] c h e z = refl
any_grown ts n zero m (x ∷ xs) zero h e z =
    any_zeros n _ xs (λ j. z (suc j) (omega arith)) ∙ sym (any_zeros n _ xs (λ j. z (suc j) (omega arith)))
any_grown ts n (suc k) m (x ∷ xs) zero h e z = absurd (both_ways _ e refl)
any_grown ts n zero m (x ∷ xs) (suc c) h e z = any_grown ts n (kind_of ts x).size (kind_of ts x).mask xs c h e (λ j l. z (suc j) (omega arith))
any_grown ts n (suc k) m (x ∷ xs) (suc c) h e z =
    ap (λ r. (odd m && leads n x) || r) (any_grown ts n k (m / 2) xs c h e (λ j l. z (suc j) (omega arith)))

pub links_grown : (ts : List Descriptor) (n : ℕ) (xs : List ℕ) (c u h : ℕ) → EndsAt ts xs c → links_to ts (set (set xs 0 u) c h) n ≡ links_to ts xs n
links_grown ts n [] c u h e = refl
links_grown ts n (x ∷ xs) zero u h e = absurd (omega (arith, e.0))
links_grown ts n (x ∷ xs) (suc c) u h e = any_grown ts n 0 0 xs c h e.1 (λ j l. e.2 (suc j) (omega arith))

-- a page of addresses ends where its long pointers do
pub ends_back : (ts : List Descriptor) (pages ys : List ℕ) (c : ℕ) → EndsAt ts ys c → EndsAt ts (unswizzled ts pages ys) c
ends_back ts pages ys c (low, plain, zeros) = (low, ap (λ bs. get_or bs c false) (same_places_back ts pages ys).1 ∙ plain, λ k l. at_where (pointer pages) (link_cells ts ys) ys k refl ∙ ap (λ x. cond (get_or (link_cells ts ys) k false) (pointer pages x) x) (zeros k l) ∙ cond_same (get_or (link_cells ts ys) k false) 0)

-- a long pointer fits a cell
pub pointer_fits : (pages : List ℕ) (y : ℕ) → Most pages 1024 → pointer pages y < 2 ^ 64
pointer_fits pages y m = by (cases_eq y 0)
  where
    by : (y ≡ 0) ⊎ (y ≡ 0 → ⊥) → pointer pages y < 2 ^ 64
    by (inl e) = rw e (omega arith)
    by (inr d) = rw (ne_eqb y 0 d) (omega (arith, m ((y - 1048512) / 64)))

pub long_fits : (ts : List Descriptor) (pages ys : List ℕ) → Most pages 1024 → ((j : ℕ) → get_or ys j 0 < 2 ^ 64) → (j : ℕ) → get_or (unswizzled ts pages ys) j 0 < 2 ^ 64
long_fits ts pages ys m fits j = subst (λ x. x < 2 ^ 64) (sym (at_where (pointer pages) (link_cells ts ys) ys j refl)) (by (get_or (link_cells ts ys) j false))
  where
    by : (b : Bool) → cond b (pointer pages (get_or ys j 0)) (get_or ys j 0) < 2 ^ 64
    by true = pointer_fits pages (get_or ys j 0) m
    by false = fits j

-- and the other way
pub ends_there : (ts : List Descriptor) (slots xs : List ℕ) (c : ℕ) → EndsAt ts xs c → EndsAt ts (swizzled ts slots xs) c
ends_there ts slots xs c (low, plain, zeros) = (low, ap (λ bs. get_or bs c false) (same_places ts slots xs).1 ∙ plain, λ k l. at_where (address slots) (link_cells ts xs) xs k refl ∙ ap (λ x. cond (get_or (link_cells ts xs) k false) (address slots x) x) (zeros k l) ∙ cond_same (get_or (link_cells ts xs) k false) 0)
