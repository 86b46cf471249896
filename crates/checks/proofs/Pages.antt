-- Lists of pages by their numbers, and the pages of the layer. Assumes nothing.
use Rattle.std.proofs.Common.{◌≡◌, ℕ, zero, suc, ◌<◌, ◌≤◌, true, ◌&&◌, ltb, leb, List, length, refl, ap, ◌∙◌, arith}
use Rattle.std.proofs.lemmas.List.FromFn.{get_or-map-range_with_len}
use Rattle.std.proofs.lemmas.List.{same_lists, length-set, get_or-set_same, get_or-set_other, get_or_default}
use Rattle.std.proofs.lemmas.Bool.{ltb-true, leb-true, and_parts}
use Rattle.store.specs.Pages.{bytes, Page, no_page, page_at, is_page}
use Rattle.store.specs.Rules.{open_at, written}
use Rattle.checks.specs.Layer.{checked_count, check_page, checked_page, checked}
use Rattle.checks.specs.Laws.{length_checked}
use Rattle.checks.specs.Calls.{in_layer}

pub same_pages : (ps qs : List Page) → length ps ≡ length qs → ((n : ℕ) → 0 < n → n ≤ length ps → page_at ps n ≡ page_at qs n) → ps ≡ qs
same_pages ps qs e h =
    same_lists ps qs e
    (λ k d l.
    let z : 0 < suc k = omega arith in
    let m : suc k ≤ length ps = omega arith in
    let l' : k < length qs = omega arith in
    get_or_default ps k d no_page l ∙ h (suc k) z m ∙ get_or_default qs k no_page d l')

abbrev pub after : List Page → ℕ → List ℕ → Page
after ps n bs = record { content = bytes bs; writable = open_at ps n }

pub length_written : (ps : List Page) (n : ℕ) (bs : List ℕ) → length (written ps n bs) ≡ length ps
length_written ps zero bs = refl
length_written ps (suc i) bs = length-set ps i (after ps (suc i) bs)

pub page_written : (ps : List Page) (n : ℕ) (bs : List ℕ) → 0 < n → n ≤ length ps → page_at (written ps n bs) n ≡ after ps n bs
page_written ps zero bs z h = absurd (omega arith)
page_written ps (suc i) bs z h = let l : i < length ps = omega arith in get_or-set_same ps i (after ps (suc i) bs) no_page l

pub page_beside : (ps : List Page) (n m : ℕ) (bs : List ℕ) → (m ≡ n → ⊥) → page_at (written ps n bs) m ≡ page_at ps m
page_beside ps zero m bs ne = refl
page_beside ps (suc i) zero bs ne = refl
page_beside ps (suc i) (suc j) bs ne = get_or-set_other ps i j (after ps (suc i) bs) no_page (λ e. ne (ap suc e))

-- which pages the layer has

pub layer_bounds : (q n : ℕ) → in_layer q n ≡ true → (0 < n) × (n ≤ checked_count q)
layer_bounds q n h =
    let e = and_parts (ltb 0 n) (leb n (checked_count q)) h in
    (ltb-true 0 n e.0, leb-true n (checked_count q) e.1)

pub layer_is : (ps : List Page) (n : ℕ) → is_page (checked ps) n ≡ in_layer (length ps) n
layer_is ps n = ap (λ k. ltb 0 n && leb n k) (length_checked ps)

-- a check page lies above the pages of the layer and within those below
pub check_above : (q n : ℕ) → 0 < n → n ≤ checked_count q → (checked_count q < check_page q n) × (check_page q n ≤ q)
check_above q n z h = (omega arith, omega arith)

pub page_checked : (ps : List Page) (n : ℕ) → 0 < n → n ≤ checked_count (length ps) → page_at (checked ps) n ≡ checked_page ps n
unfolding checked
page_checked ps zero z h = absurd (omega arith)
page_checked ps (suc i) z h = get_or-map-range_with_len (checked_page ps) 1 (checked_count (length ps)) i (suc i) no_page (omega arith) (omega arith)
