-- The laws of pages in frames and of changes to them. Assumes nothing.
use Rattle.std.proofs.Common.{◌≡◌, ℕ, zero, suc, ◌+◌, ◌-◌, ◌*◌, ◌/◌, ◌%◌, ◌<◌, ◌≤◌, Bool, true, false, cond, not, ◌&&◌, ◌||◌, eqb, List, [], ◌∷◌, length, get_or, set, sym, refl, ap, ◌∙◌, ⊎_elim, arith}
use Rattle.std.proofs.lemmas.Bool.{both_ways, cases_eq, cond-false, eq-eqb, ne_eqb, and_from, or_left, or_right, not_from_false}
use Rattle.std.proofs.lemmas.List.{ext_get_or}
use Rattle.page.specs.Descriptors.{declared}
use Rattle.page.specs.Walks.{kind_of, odd, links_from, link_cells, fields_from, field_cells, starts_from, start_cells, leads, any_leads}
use Rattle.page.specs.declared.descriptor.Descriptor.{Descriptor}
use Rattle.address.specs.Pairing.{Returns}
use Rattle.frame.specs.Links.{map_where, address, pointer, swizzled, unswizzled}
use Rattle.frame.specs.Laws.{EndsAt, Pointwise, SamePlaces, SamePlacesBack, Back, Unmoved, SetField, LinksAreFields, Append, AppendStarts, Kept, SetFieldBack, AppendBack, There}
use Rattle.frame.proofs.Walks.{or_nothing}

pub cond_same : {X : Type 0} (b : Bool) (x : X) → cond b x x ≡ x
cond_same true x = refl
cond_same false x = refl

pub length_where : (f : ℕ → ℕ) (bs : List Bool) (xs : List ℕ) → length (map_where f bs xs) ≡ length xs
length_where f [] xs = refl
length_where f (b ∷ bs) [] = refl
length_where f (b ∷ bs) (x ∷ xs) = ap suc (length_where f bs xs)

-- flagged elements, one by one
pub at_where : (f : ℕ → ℕ) (bs : List Bool) (xs : List ℕ) (i : ℕ) → f 0 ≡ 0 → get_or (map_where f bs xs) i 0 ≡ cond (get_or bs i false) (f (get_or xs i 0)) (get_or xs i 0)
at_where f [] xs i z = refl
at_where f (b ∷ bs) [] i z = sym (ap (λ y. cond (get_or (b ∷ bs) i false) y 0) z ∙ cond_same (get_or (b ∷ bs) i false) 0)
at_where f (b ∷ bs) (x ∷ xs) zero z = refl
at_where f (b ∷ bs) (x ∷ xs) (suc i) z = at_where f bs xs i z

-- a page made cell by cell
pub where_each : (f : ℕ → ℕ) (bs : List Bool) (xs ys : List ℕ) → f 0 ≡ 0 → length ys ≡ length xs → ((k : ℕ) → k < length xs → get_or ys k 0 ≡ cond (get_or bs k false) (f (get_or xs k 0)) (get_or xs k 0)) → ys ≡ map_where f bs xs
where_each f bs xs ys z l each = ext_get_or 0 ys (map_where f bs xs) (l ∙ sym (length_where f bs xs)) (λ k h. each k (omega arith) ∙ sym (at_where f bs xs k z))

pub round_where : (f g : ℕ → ℕ) (bs : List Bool) (xs : List ℕ) → ((i : ℕ) → get_or bs i false ≡ true → g (f (get_or xs i 0)) ≡ get_or xs i 0) → map_where g bs (map_where f bs xs) ≡ xs
round_where f g [] xs h = refl
round_where f g (b ∷ bs) [] h = refl
round_where f g (true ∷ bs) (x ∷ xs) h = ap (λ y. y ∷ map_where g bs (map_where f bs xs)) (h 0 refl) ∙ ap (λ r. x ∷ r) (round_where f g bs xs (λ i. h (suc i)))
round_where f g (false ∷ bs) (x ∷ xs) h = ap (λ r. x ∷ r) (round_where f g bs xs (λ i. h (suc i)))

pub agree_where : (f g : ℕ → ℕ) (bs : List Bool) (xs : List ℕ) → ((i : ℕ) → get_or bs i false ≡ true → f (get_or xs i 0) ≡ g (get_or xs i 0)) → map_where f bs xs ≡ map_where g bs xs
agree_where f g [] xs h = refl
agree_where f g (b ∷ bs) [] h = refl
agree_where f g (true ∷ bs) (x ∷ xs) h = ap (λ y. y ∷ map_where f bs xs) (h 0 refl) ∙ ap (λ r. g x ∷ r) (agree_where f g bs xs (λ i. h (suc i)))
agree_where f g (false ∷ bs) (x ∷ xs) h = ap (λ r. x ∷ r) (agree_where f g bs xs (λ i. h (suc i)))

pub set_where : (f : ℕ → ℕ) (bs : List Bool) (xs : List ℕ) (i v : ℕ) → map_where f bs (set xs i v) ≡ set (map_where f bs xs) i (cond (get_or bs i false) (f v) v)
set_where f [] xs i v = refl
set_where f (b ∷ bs) [] i v = refl
set_where f (b ∷ bs) (x ∷ xs) zero v = refl
set_where f (b ∷ bs) (x ∷ xs) (suc i) v = ap (λ r. cond b (f x) x ∷ r) (set_where f bs xs i v)

zeros_where : (f : ℕ → ℕ) (bs : List Bool) (xs : List ℕ) → f 0 ≡ 0 → ((j : ℕ) → get_or xs j 0 ≡ 0) → map_where f bs xs ≡ xs
zeros_where f [] xs z h = refl
zeros_where f (b ∷ bs) [] z h = refl
zeros_where f (b ∷ bs) (x ∷ xs) z h =
    ap (λ y. y ∷ map_where f bs xs) (ap (λ y. cond b (f y) x) (h 0) ∙ ap (λ y. cond b y x) (z ∙ sym (h 0)) ∙ cond_same b x)
    ∙ ap (λ r. x ∷ r) (zeros_where f bs xs z (λ j. h (suc j)))

module _ (ts : List Descriptor) where
  module _ (f : ℕ → ℕ) where
    links_kept : (k m : ℕ) (xs : List ℕ) → links_from ts k m (map_where f (links_from ts k m xs) xs) ≡ links_from ts k m xs
    links_kept k m [] = refl
    links_kept zero m (x ∷ xs) = ap (λ r. false ∷ r) (links_kept (kind_of ts x).size (kind_of ts x).mask xs)
    links_kept (suc k) m (x ∷ xs) = ap (λ r. odd m ∷ r) (links_kept k (m / 2) xs)

    fields_kept : (k m : ℕ) (xs : List ℕ) → fields_from ts k (map_where f (links_from ts k m xs) xs) ≡ fields_from ts k xs
    fields_kept k m [] = refl
    fields_kept zero m (x ∷ xs) = ap (λ r. false ∷ r) (fields_kept (kind_of ts x).size (kind_of ts x).mask xs)
    fields_kept (suc k) m (x ∷ xs) = ap (λ r. true ∷ r) (fields_kept k (m / 2) xs)

    starts_kept : (k m : ℕ) (xs : List ℕ) → starts_from ts k (map_where f (links_from ts k m xs) xs) ≡ starts_from ts k xs
    starts_kept k m [] = refl
    starts_kept zero m (x ∷ xs) = ap (λ r. declared ts x ∷ r) (starts_kept (kind_of ts x).size (kind_of ts x).mask xs)
    starts_kept (suc k) m (x ∷ xs) = ap (λ r. false ∷ r) (starts_kept k (m / 2) xs)

    pub places_kept : (xs : List ℕ) → (link_cells ts (map_where f (link_cells ts xs) xs) ≡ link_cells ts xs) × (field_cells ts (map_where f (link_cells ts xs) xs) ≡ field_cells ts xs) × (start_cells ts (map_where f (link_cells ts xs) xs) ≡ start_cells ts xs)
    places_kept [] = (refl, refl, refl)
    places_kept (x ∷ xs) = (ap (λ r. false ∷ r) (links_kept 0 0 xs), ap (λ r. false ∷ r) (fields_kept 0 0 xs), ap (λ r. false ∷ r) (starts_kept 0 0 xs))

    module _ (z : f 0 ≡ 0) where
      -- an object is appended
      grown_from : (k m : ℕ) (xs : List ℕ) (c h : ℕ) → get_or (fields_from ts k xs) c false ≡ false → ((j : ℕ) → c ≤ j → get_or xs j 0 ≡ 0) → map_where f (links_from ts k m (set xs c h)) (set xs c h) ≡ set (map_where f (links_from ts k m xs) xs) c h
      grown_from k m [] c h e n = refl
      grown_from zero m (x ∷ xs) zero h e n =
          ap (λ r. h ∷ r) (zeros_where f _ xs z (λ j. n (suc j) (omega arith)) ∙ sym (zeros_where f _ xs z (λ j. n (suc j) (omega arith))))
      grown_from (suc k) m (x ∷ xs) zero h e n = absurd (both_ways _ e refl)
      grown_from zero m (x ∷ xs) (suc c) h e n = ap (λ r. x ∷ r) (grown_from (kind_of ts x).size (kind_of ts x).mask xs c h e (λ j l. n (suc j) (omega arith)))
      grown_from (suc k) m (x ∷ xs) (suc c) h e n = ap (λ r. cond (odd m) (f x) x ∷ r) (grown_from k (m / 2) xs c h e (λ j l. n (suc j) (omega arith)))

      pub grown : (xs : List ℕ) (c u h : ℕ) → EndsAt ts xs c → map_where f (link_cells ts (set (set xs 0 u) c h)) (set (set xs 0 u) c h) ≡ set (set (map_where f (link_cells ts xs) xs) 0 u) c h
      grown [] c u h e = refl
      grown (x ∷ xs) zero u h e = absurd (omega (arith, e.0))
      grown (x ∷ xs) (suc c) u h e = ap (λ r. u ∷ r) (grown_from 0 0 xs c h e.1 (λ j l. e.2 (suc j) (omega arith)))

  -- a field is set
  links_set : (k m : ℕ) (xs : List ℕ) (i v : ℕ) → get_or (fields_from ts k xs) i false ≡ true → links_from ts k m (set xs i v) ≡ links_from ts k m xs
  links_set k m [] i v e = refl
  links_set zero m (x ∷ xs) zero v e = absurd (both_ways _ refl e)
  links_set zero m (x ∷ xs) (suc i) v e = ap (λ r. false ∷ r) (links_set (kind_of ts x).size (kind_of ts x).mask xs i v e)
  links_set (suc k) m (x ∷ xs) zero v e = refl
  links_set (suc k) m (x ∷ xs) (suc i) v e = ap (λ r. odd m ∷ r) (links_set k (m / 2) xs i v e)

  fields_set : (k : ℕ) (xs : List ℕ) (i v : ℕ) → get_or (fields_from ts k xs) i false ≡ true → fields_from ts k (set xs i v) ≡ fields_from ts k xs
  fields_set k [] i v e = refl
  fields_set zero (x ∷ xs) zero v e = absurd (both_ways _ refl e)
  fields_set zero (x ∷ xs) (suc i) v e = ap (λ r. false ∷ r) (fields_set (kind_of ts x).size xs i v e)
  fields_set (suc k) (x ∷ xs) zero v e = refl
  fields_set (suc k) (x ∷ xs) (suc i) v e = ap (λ r. true ∷ r) (fields_set k xs i v e)

  starts_set : (k : ℕ) (xs : List ℕ) (i v : ℕ) → get_or (fields_from ts k xs) i false ≡ true → starts_from ts k (set xs i v) ≡ starts_from ts k xs
  starts_set k [] i v e = refl
  starts_set zero (x ∷ xs) zero v e = absurd (both_ways _ refl e)
  starts_set zero (x ∷ xs) (suc i) v e = ap (λ r. declared ts x ∷ r) (starts_set (kind_of ts x).size xs i v e)
  starts_set (suc k) (x ∷ xs) zero v e = refl
  starts_set (suc k) (x ∷ xs) (suc i) v e = ap (λ r. false ∷ r) (starts_set k xs i v e)

  pub places_set : (xs : List ℕ) (i v : ℕ) → get_or (field_cells ts xs) i false ≡ true → (link_cells ts (set xs i v) ≡ link_cells ts xs) × (field_cells ts (set xs i v) ≡ field_cells ts xs) × (start_cells ts (set xs i v) ≡ start_cells ts xs)
  places_set [] i v e = (refl, refl, refl)
  places_set (x ∷ xs) zero v e = absurd (both_ways _ refl e)
  places_set (x ∷ xs) (suc i) v e = (ap (λ r. false ∷ r) (links_set 0 0 xs i v e), ap (λ r. false ∷ r) (fields_set 0 xs i v e), ap (λ r. false ∷ r) (starts_set 0 xs i v e))

  link_is_field : (k m : ℕ) (xs : List ℕ) (i : ℕ) → get_or (links_from ts k m xs) i false ≡ true → get_or (fields_from ts k xs) i false ≡ true
  link_is_field k m [] i e = e
  link_is_field zero m (x ∷ xs) zero e = e
  link_is_field zero m (x ∷ xs) (suc i) e = link_is_field (kind_of ts x).size (kind_of ts x).mask xs i e
  link_is_field (suc k) m (x ∷ xs) zero e = refl
  link_is_field (suc k) m (x ∷ xs) (suc i) e = link_is_field k (m / 2) xs i e

  -- nothing begins among zeros
  pub starts_none : (k : ℕ) (xs : List ℕ) → ((j : ℕ) → get_or xs j 0 ≡ 0) → (j : ℕ) → get_or (starts_from ts k xs) j false ≡ false
  starts_none k [] h j = refl
  starts_none zero (x ∷ xs) h zero = ap (declared ts) (h 0)
  starts_none zero (x ∷ xs) h (suc j) = starts_none (kind_of ts x).size xs (λ i. h (suc i)) j
  starts_none (suc k) (x ∷ xs) h zero = refl
  starts_none (suc k) (x ∷ xs) h (suc j) = starts_none k xs (λ i. h (suc i)) j

pub any_leads_lem : (n : ℕ) (bs : List Bool) (xs : List ℕ) (i : ℕ) → get_or bs i false ≡ true → (get_or xs i 0 ≡ 0 → ⊥) → get_or xs i 0 / 64 ≡ n → any_leads n bs xs ≡ true
any_leads_lem n [] xs i e p q = absurd (both_ways _ refl e)
any_leads_lem n (b ∷ bs) [] i e p q = absurd (p refl)
any_leads_lem n (b ∷ bs) (x ∷ xs) zero e p q = or_left (b && leads n x) _ (and_from b (leads n x) e (and_from (not (eqb x 0)) _ (not_from_false (eqb x 0) (ne_eqb x 0 p)) (eq-eqb (x / 64) n q)))
any_leads_lem n (b ∷ bs) (x ∷ xs) (suc i) e p q = or_right (b && leads n x) _ (any_leads_lem n bs xs i e p q)

eqb_suc : (a b : ℕ) → eqb a b ≡ eqb (suc a) (suc b)
eqb_suc a b =
    ⊎_elim
    (λ (e : a ≡ b). eq-eqb a b e ∙ sym (eq-eqb (suc a) (suc b) (ap suc e)))
    (λ (p : a ≡ b → ⊥). ne_eqb a b p ∙ sym (ne_eqb (suc a) (suc b) (λ q. p (omega arith))))
    (cases_eq a b)

or_not : (b t : Bool) → t ≡ false → b ≡ (b || t)
or_not b t e = or_nothing b ∙ ap (λ c. b || c) (sym e)

module _ (ts : List Descriptor) (h : ℕ) (known : declared ts h ≡ true) where
  grown_starts : (k : ℕ) (xs : List ℕ) (c j : ℕ) → get_or (fields_from ts k xs) c false ≡ false → ((i : ℕ) → c ≤ i → get_or xs i 0 ≡ 0) → c < length xs → get_or (starts_from ts k (set xs c h)) j false ≡ (get_or (starts_from ts k xs) j false || eqb j c)
  grown_starts k [] c j e n l = absurd (omega arith)
  grown_starts zero (x ∷ xs) zero zero e n l = known ∙ sym (or_right (declared ts x) _ refl)
  grown_starts zero (x ∷ xs) zero (suc j) e n l =
      starts_none ts (kind_of ts h).size xs (λ i. n (suc i) (omega arith)) j
      ∙ sym (starts_none ts (kind_of ts x).size xs (λ i. n (suc i) (omega arith)) j)
      ∙ or_not _ _ (ne_eqb (suc j) 0 (λ q. omega arith))
  grown_starts (suc k) (x ∷ xs) zero j e n l = absurd (both_ways _ e refl)
  grown_starts zero (x ∷ xs) (suc c) zero e n l = or_not _ _ (ne_eqb 0 (suc c) (λ q. omega arith))
  grown_starts zero (x ∷ xs) (suc c) (suc j) e n l =
      grown_starts (kind_of ts x).size xs c j e (λ i q. n (suc i) (omega arith)) (omega arith) ∙ ap (λ b. get_or (starts_from ts (kind_of ts x).size xs) j false || b) (eqb_suc j c)
  grown_starts (suc k) (x ∷ xs) (suc c) zero e n l = or_not _ _ (ne_eqb 0 (suc c) (λ q. omega arith))
  grown_starts (suc k) (x ∷ xs) (suc c) (suc j) e n l =
      grown_starts k xs c j e (λ i q. n (suc i) (omega arith)) (omega arith) ∙ ap (λ b. get_or (starts_from ts k xs) j false || b) (eqb_suc j c)

pub append_starts : AppendStarts
append_starts ts [] c u h k e l known = absurd (omega arith)
append_starts ts (x ∷ xs) zero u h k e l known = absurd (omega (arith, e.0))
append_starts ts (x ∷ xs) (suc c) u h zero e l known = or_not _ _ (ne_eqb 0 (suc c) (λ q. omega arith))
append_starts ts (x ∷ xs) (suc c) u h (suc k) e l known =
    grown_starts ts h known 0 xs c k e.1 (λ i q. e.2 (suc i) (omega arith)) (omega arith) ∙ ap (λ b. get_or (starts_from ts 0 xs) k false || b) (eqb_suc k c)

-- there and back
pub link_back : (slots pages : List ℕ) (x : ℕ) → Returns slots pages → ((x ≡ 0 → ⊥) → 0 < get_or slots (x / 64) 0) → pointer pages (address slots x) ≡ x
link_back slots pages x r h =
    ⊎_elim
    (λ (e : x ≡ 0). rw e refl)
    (λ (p : x ≡ 0 → ⊥).
    let s : ℕ = get_or slots (x / 64) 0 in
    let a : ℕ = 1048512 + 64 * s + x % 64 in
    let e₁ : address slots x ≡ a = cond-false (eqb x 0) 0 a (ne_eqb x 0 p) in
    let e₂ : pointer pages a ≡ 64 * get_or pages ((a - 1048512) / 64) 0 + a % 64 = cond-false (eqb a 0) 0 _ (ne_eqb a 0 (λ q. omega arith)) in
    let e₃ : (a - 1048512) / 64 ≡ s = omega arith in
    let e₄ : get_or pages ((a - 1048512) / 64) 0 ≡ x / 64 = ap (λ n. get_or pages n 0) e₃ ∙ r (x / 64) (h p) in
    ap (pointer pages) e₁ ∙ e₂ ∙ omega (arith, e₄))
    (cases_eq x 0)

address_agree : (slots slots' : List ℕ) (x : ℕ) → ((x ≡ 0 → ⊥) → get_or slots (x / 64) 0 ≡ get_or slots' (x / 64) 0) → address slots x ≡ address slots' x
address_agree slots slots' x h =
    ⊎_elim (λ (e : x ≡ 0). rw e refl) (λ (p : x ≡ 0 → ⊥). ap (λ s. cond (eqb x 0) 0 (1048512 + 64 * s + x % 64)) (h p)) (cases_eq x 0)

pub pointwise : Pointwise
pointwise ts slots xs i = at_where (address slots) (link_cells ts xs) xs i refl

pub same_places : SamePlaces
same_places ts slots xs = places_kept ts (address slots) xs

pub same_places_back : SamePlacesBack
same_places_back ts pages xs = places_kept ts (pointer pages) xs

pub back : Back
back ts slots pages xs r h =
    ap (λ bs. map_where (pointer pages) bs (swizzled ts slots xs)) (places_kept ts (address slots) xs).0
    ∙ round_where (address slots) (pointer pages) (link_cells ts xs) xs (λ i e. link_back slots pages (get_or xs i 0) r (λ p. h (get_or xs i 0 / 64) (any_leads_lem _ (link_cells ts xs) xs i e p refl)))

pub unmoved : Unmoved
unmoved ts slots slots' xs h =
    agree_where (address slots) (address slots') (link_cells ts xs) xs (λ i e. address_agree slots slots' (get_or xs i 0) (λ p. h (get_or xs i 0 / 64) (any_leads_lem _ (link_cells ts xs) xs i e p refl)))

pub set_field : SetField
set_field ts slots xs i v e =
    ap (λ bs. map_where (address slots) bs (set xs i v)) (places_set ts xs i v e).0 ∙ set_where (address slots) (link_cells ts xs) xs i v

pub links_are_fields : LinksAreFields
links_are_fields ts [] i e = e
links_are_fields ts (x ∷ xs) zero e = e
links_are_fields ts (x ∷ xs) (suc i) e = link_is_field ts 0 0 xs i e

pub append : Append
append ts slots xs c u h e = grown ts (address slots) refl xs c u h e

pub kept : Kept
kept ts slots slots' pages' xs same served r =
    ap (unswizzled ts pages') (unmoved ts slots slots' xs same) ∙ back ts slots' pages' xs r (λ n e. rw (sym (same n e)) (served n e))

pub set_field_back : SetFieldBack
set_field_back ts pages ys i v e =
    ap (λ bs. map_where (pointer pages) bs (set ys i v)) (places_set ts ys i v e).0 ∙ set_where (pointer pages) (link_cells ts ys) ys i v

pub append_back : AppendBack
append_back ts pages ys c u h e = grown ts (pointer pages) refl ys c u h e

pub there : There
there slots pages s c r h l =
    let n : ℕ = get_or pages s 0 in
    let a : ℕ = 1048512 + 64 * s + c in
    let x : ℕ = 64 * n + c in
    let e₁ : pointer pages a ≡ 64 * get_or pages ((a - 1048512) / 64) 0 + a % 64 = cond-false (eqb a 0) 0 _ (ne_eqb a 0 (λ q. omega arith)) in
    let e₂ : (a - 1048512) / 64 ≡ s = omega arith in
    let e₃ : get_or pages ((a - 1048512) / 64) 0 ≡ n = ap (λ k. get_or pages k 0) e₂ in
    let e₄ : pointer pages a ≡ x = e₁ ∙ omega (arith, e₃) in
    let e₅ : address slots x ≡ 1048512 + 64 * get_or slots (x / 64) 0 + x % 64 = cond-false (eqb x 0) 0 _ (ne_eqb x 0 (λ q. omega arith)) in
    let e₆ : x / 64 ≡ n = omega arith in
    let e₇ : get_or slots (x / 64) 0 ≡ s = ap (λ k. get_or slots k 0) e₆ ∙ r s h in
    ap (address slots) e₄ ∙ e₅ ∙ omega (arith, e₇)
