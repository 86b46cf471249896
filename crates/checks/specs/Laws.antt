-- The pages of the layer are lawful. Assumes nothing.
use Rattle.std.specs.Prelude.{◌≡◌, ℕ, zero, suc, ◌+◌, ◌≤◌, true, false, cond, List, map, length, ◌==◌, slice_index_or, refl}
use Rattle.std.proofs.Common.{ap}
use native.Mathlib.Omega.{arith}
use Rattle.std.specs.List.{range_with_len}
use Rattle.page.specs.Cells.{cell_at}
use Rattle.store.specs.Pages.{Content, bytes, marked, Page, no_page, page_at, Whole, Lawful}
use Rattle.checks.specs.Layer.{check, checked_count, check_page, check_cell, compared, checked_page, checked}

length_made : (ps : List Page) (a k : ℕ) → length (map (checked_page ps) (range_with_len a k)) ≡ k
length_made ps a zero = refl
length_made ps a (suc k) = ap suc (length_made ps (a + 1) k)

pub length_checked : (ps : List Page) → length (checked ps) ≡ checked_count (length ps)
unfolding checked
length_checked ps = length_made ps 1 (checked_count (length ps))

whole_compared : (i : ℕ) (own sums : Content) → Whole own → Whole sums → Whole (compared i own sums)
whole_compared i (marked c l) sums h k = h
whole_compared i (bytes bs) (marked c l) h k = k
whole_compared i (bytes bs) (bytes cs) h k =
    elim (check bs == cell_at cs i) as (λ t. Whole (cond t (bytes bs) (marked 12 8))) [ true ↦ h | false ↦ λ e. omega arith ]

module _ (ps : List Page) (whole : (n : ℕ) → Whole (page_at ps n).content) where
  whole_made : (a k i : ℕ) → Whole (slice_index_or (map (checked_page ps) (range_with_len a k)) i no_page).content
  whole_made a zero i = λ e. omega arith
  whole_made a (suc k) zero =
      whole_compared (check_cell a) (page_at ps a).content (page_at ps (check_page (length ps) a)).content (whole a) (whole (check_page (length ps) a))
  whole_made a (suc k) (suc i) = whole_made (a + 1) k i

  whole_checked : (n : ℕ) → Whole (page_at (checked ps) n).content
  unfolding checked
  whole_checked zero = λ e. omega arith
  whole_checked (suc i) = whole_made 1 (checked_count (length ps)) i

pub checked_lawful : {S T : Type 0} {pages : T → List Page} → Lawful pages → (lower : S → T) → Lawful (λ s. checked (pages (lower s)))
checked_lawful {pages = pages} l lower = record {
  few = λ s. let h : length (pages (lower s)) ≤ 1024 = l.few (lower s) in simp length_checked (omega arith);
  whole = λ s n. whole_checked (pages (lower s)) (l.whole (lower s)) n;
}
