-- The pages of a row of bytes are lawful, and so are those of a store that is lent. Assumes nothing.
use Rattle.std.specs.Prelude.{◌≡◌, ℕ, zero, suc, ◌*◌, ◌≤◌, Bool, List, length, drop, slice_index_or, refl}
use Rattle.std.proofs.Common.{ap, arith, length-take, length-drop}
use Rattle.store.specs.Pages.{Page, no_page, page_at, Whole, Lawful, page_count, cut, paged}

pub length_cut : (w : Bool) (k : ℕ) (bs : List ℕ) → length (cut w k bs) ≡ k
length_cut w zero bs = refl
length_cut w (suc k) bs = ap suc (length_cut w k (drop 512 bs))

whole_cut : (w : Bool) (k : ℕ) (bs : List ℕ) (i : ℕ) → k * 512 ≤ length bs → Whole (slice_index_or (cut w k bs) i no_page).content
whole_cut w zero bs i h = λ e. omega arith
whole_cut w (suc k) bs zero h = simp length-take (omega arith)
whole_cut w (suc k) bs (suc i) h = whole_cut w k (drop 512 bs) i (simp length-drop (omega arith))

whole_paged : (w : Bool) (bs : List ℕ) (n : ℕ) → Whole (page_at (paged w bs) n).content
whole_paged w bs zero = λ e. omega arith
whole_paged w bs (suc i) = whole_cut w (page_count bs) bs i (omega arith)

pub paged_lawful : {S : Type 0} (w : Bool) (row : S → List ℕ) → Lawful (λ s. paged w (row s))
paged_lawful w row = record {
  few = λ s. simp length_cut (omega arith);
  whole = λ s n. whole_paged w (row s) n;
}

pub seen_lawful : {S T : Type 0} {pages : T → List Page} → Lawful pages → (seen : S → T) → Lawful (λ s. pages (seen s))
seen_lawful l seen = record { few = λ s. l.few (seen s); whole = λ s n. l.whole (seen s) n }
