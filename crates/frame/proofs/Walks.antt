-- One step of the walk, and of what is done at each flag. Assumes nothing.
use Rattle.std.proofs.Common.{◌≡◌, ℕ, zero, suc, ◌+◌, ◌-◌, ◌/◌, ◌<◌, Bool, true, false, cond, eqb, nat_lt, ◌&&◌, ◌||◌, ◌⊎◌, List, [], ◌∷◌, length, get_or, take, drop, is_some, Some, None, refl, ap, ◌∙◌, add-one, arith}
use Rattle.std.specs.List.{fold}
use Rattle.std.proofs.lemmas.Bool.{lt-ltb, ne_eqb}
use Rattle.std.proofs.lemmas.List.{drop_more}
use Rattle.page.specs.Descriptors.{no_type, declared, type_of, found}
use Rattle.page.specs.Walks.{kind_of, odd, links_from, link_cells, starts_from, start_cells, any_leads}
use Rattle.page.specs.declared.descriptor.Descriptor.{Descriptor}
use Rattle.frame.specs.Links.{no_fields, fields_after}
use Rattle.frame.specs.declared.walk.Fields.{Fields}

some_if : {A : Type 0} (b : Bool) (x : A) → is_some (cond b (Some x) None) ≡ b
some_if true x = refl
some_if false x = refl

pub found_some : (ts : List Descriptor) (x : ℕ) → is_some (found ts x) ≡ declared ts x
found_some ts x = some_if (declared ts x) (type_of ts x)

kind_if : (b : Bool) (d t : Descriptor) → Some d ≡ cond b (Some t) None → (b ≡ true) × (cond b t no_type ≡ d)
kind_if true d t e = (refl, cc)
kind_if false d t e = let z : ◌≡◌ {A = ℕ} 0 1 = cc in absurd (omega arith)

pub found_kind : (ts : List Descriptor) (x : ℕ) (d : Descriptor) → Some d ≡ found ts x → (declared ts x ≡ true) × (kind_of ts x ≡ d)
found_kind ts x d e = kind_if (declared ts x) d (type_of ts x) e

-- what is left of a list, taken apart
cut_suc : {X : Type 0} (bs : List X) (i : ℕ) (b d : X) (r : List X) → drop i bs ≡ b ∷ r → (get_or bs i d ≡ b) × (drop (suc i) bs ≡ r)
cut_suc [] zero b d r e = let z : ◌≡◌ {A = ℕ} 0 1 = cc in absurd (omega arith)
cut_suc [] (suc i) b d r e = let z : ◌≡◌ {A = ℕ} 0 1 = cc in absurd (omega arith)
cut_suc (x ∷ bs) zero b d r e = (cc, cc)
cut_suc (x ∷ bs) (suc i) b d r e = cut_suc bs i b d r e

pub cut : {X : Type 0} (bs : List X) (i : ℕ) (b d : X) (r : List X) → drop i bs ≡ b ∷ r → (get_or bs i d ≡ b) × (drop (i + 1) bs ≡ r)
cut bs i b d r e = rw add-one (cut_suc bs i b d r e)

pub length_links_from : (ts : List Descriptor) (k m : ℕ) (xs : List ℕ) → length (links_from ts k m xs) ≡ length xs
length_links_from ts k m [] = refl
length_links_from ts zero m (x ∷ xs) = ap suc (length_links_from ts (kind_of ts x).size (kind_of ts x).mask xs)
length_links_from ts (suc k) m (x ∷ xs) = ap suc (length_links_from ts k (m / 2) xs)

pub length_link_cells : (ts : List Descriptor) (xs : List ℕ) → length (link_cells ts xs) ≡ length xs
length_link_cells ts [] = refl
length_link_cells ts (x ∷ xs) = ap suc (length_links_from ts 0 0 xs)

pub links_zero : (ts : List Descriptor) (xs : List ℕ) → get_or (link_cells ts xs) 0 false ≡ false
links_zero ts [] = refl
links_zero ts (x ∷ xs) = refl

pub starts_zero : (ts : List Descriptor) (xs : List ℕ) → get_or (start_cells ts xs) 0 false ≡ false
starts_zero ts [] = refl
starts_zero ts (x ∷ xs) = refl

length_starts_from : (ts : List Descriptor) (k : ℕ) (xs : List ℕ) → length (starts_from ts k xs) ≡ length xs
length_starts_from ts k [] = refl
length_starts_from ts zero (x ∷ xs) = ap suc (length_starts_from ts (kind_of ts x).size xs)
length_starts_from ts (suc k) (x ∷ xs) = ap suc (length_starts_from ts k xs)

pub length_start_cells : (ts : List Descriptor) (xs : List ℕ) → length (start_cells ts xs) ≡ length xs
length_start_cells ts [] = refl
length_start_cells ts (x ∷ xs) = ap suc (length_starts_from ts 0 xs)

-- one cell of the walk
links_cons : (ts : List Descriptor) (k m x : ℕ) (xs : List ℕ) → links_from ts k m (x ∷ xs) ≡ (nat_lt 0 k && odd m) ∷ links_from ts (fields_after ts (record { left = k; links = m }) x).left (fields_after ts (record { left = k; links = m }) x).links xs
links_cons ts zero m x xs = refl
links_cons ts (suc k) m x xs = let e : suc k - 1 ≡ k = omega arith in rw (lt-ltb 0 (suc k) (omega arith), ne_eqb (suc k) 0 (λ z. omega arith), e) refl

starts_cons : (ts : List Descriptor) (k m x : ℕ) (xs : List ℕ) → starts_from ts k (x ∷ xs) ≡ (eqb k 0 && declared ts x) ∷ starts_from ts (fields_after ts (record { left = k; links = m }) x).left xs
starts_cons ts zero m x xs = refl
starts_cons ts (suc k) m x xs = let e : suc k - 1 ≡ k = omega arith in rw (ne_eqb (suc k) 0 (λ z. omega arith), e) refl

-- the walk's flags at cell i, where the fields d are still to come
pub links_step : (ts : List Descriptor) (bs : List Bool) (xs : List ℕ) (i : ℕ) (d : Fields) → i < length xs → drop i bs ≡ links_from ts d.left d.links (drop i xs)
    → (get_or bs i false ≡ (nat_lt 0 d.left && odd d.links)) × (drop (i + 1) bs ≡ links_from ts (fields_after ts d (get_or xs i 0)).left (fields_after ts d (get_or xs i 0)).links (drop (i + 1) xs))
links_step ts bs xs i d h e = cut bs i _ false _ (e ∙ ap (λ l. links_from ts d.left d.links l) (drop_more xs i 0 h) ∙ links_cons ts d.left d.links (get_or xs i 0) (drop (i + 1) xs))

-- whether an object starts at cell i, by the fields still to come there
starts_fold : (ts : List Descriptor) (d : Fields) (xs : List ℕ) (i : ℕ) → i < length xs → get_or (starts_from ts d.left xs) i false ≡ (eqb (fold (fields_after ts) d (take i xs)).left 0 && declared ts (get_or xs i 0))
starts_fold ts d [] i h = absurd (omega arith)
starts_fold ts d (x ∷ xs) zero h = ap (λ l. get_or l 0 false) (starts_cons ts d.left d.links x xs)
starts_fold ts d (x ∷ xs) (suc i) h = ap (λ l. get_or l (suc i) false) (starts_cons ts d.left d.links x xs) ∙ starts_fold ts (fields_after ts d x) xs i (omega arith)

pub starts_there : (ts : List Descriptor) (xs : List ℕ) (c : ℕ) → 0 < c → c < length xs → get_or (start_cells ts xs) c false ≡ (eqb (fold (fields_after ts) no_fields (take (c - 1) (drop 1 xs))).left 0 && declared ts (get_or xs c 0))
starts_there ts [] c p h = absurd (omega arith)
starts_there ts (x ∷ xs) zero p h = absurd (omega arith)
starts_there ts (x ∷ xs) (suc c) p h = let e : suc c - 1 ≡ c = omega arith in rw e (starts_fold ts no_fields xs c (omega arith))

pub or_nothing : (b : Bool) → b ≡ (b || false)
or_nothing true = refl
or_nothing false = refl

-- where either list has ended
pub any_end : (n : ℕ) (bs : List Bool) (xs : List ℕ) → (length bs ≡ 0) ⊎ (length xs ≡ 0) → any_leads n bs xs ≡ false
any_end n [] xs e = refl
any_end n (b ∷ bs) [] e = refl
any_end n (b ∷ bs) (x ∷ xs) e = absurd (omega arith)
