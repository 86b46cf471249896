-- The pages of one store after those of another, 1,024 at most. Assumes nothing.
use Rattle.std.specs.Prelude.{ℕ, zero, suc, List, [], ◌∷◌, ◌++◌, take, slice_index_or}
use Rattle.std.proofs.Common.{arith, length-take}
use Rattle.store.specs.Pages.{Page, no_page, page_at, Whole, Lawful}

abbrev pub joined : List Page → List Page → List Page
joined ps qs = take 1024 (ps ++ qs)

-- at every place of a list
AllWhole : List Page → Type 0
AllWhole ps = (i : ℕ) → Whole (slice_index_or ps i no_page).content

whole_take : (m : ℕ) (ps : List Page) (i : ℕ) → AllWhole ps → Whole (slice_index_or (take m ps) i no_page).content
unfolding AllWhole
whole_take zero ps i h = λ e. omega arith
whole_take (suc m) [] i h = λ e. omega arith
whole_take (suc m) (p ∷ ps) zero h = h 0
whole_take (suc m) (p ∷ ps) (suc i) h = whole_take m ps i (λ k. h (suc k))

whole_append : (ps qs : List Page) → AllWhole ps → AllWhole qs → (i : ℕ) → Whole (slice_index_or (ps ++ qs) i no_page).content
unfolding AllWhole
whole_append [] qs h g i = g i
whole_append (p ∷ ps) qs h g zero = h 0
whole_append (p ∷ ps) qs h g (suc i) = whole_append ps qs (λ k. h (suc k)) g i

whole_joined : (ps qs : List Page) (n : ℕ) → AllWhole ps → AllWhole qs → Whole (page_at (joined ps qs) n).content
unfolding AllWhole
whole_joined ps qs zero h g = λ e. omega arith
whole_joined ps qs (suc i) h g = whole_take 1024 (ps ++ qs) i (whole_append ps qs h g)

pub joined_lawful : {S A B : Type 0} {ps : A → List Page} {qs : B → List Page}
    → Lawful ps → Lawful qs → (first : S → A) (second : S → B) → Lawful (λ s. joined (ps (first s)) (qs (second s)))
unfolding AllWhole
joined_lawful {ps = ps} {qs = qs} l k first second = record {
  few = λ s. simp length-take (omega arith);
  whole = λ s n. whole_joined (ps (first s)) (qs (second s)) n (λ i. l.whole (first s) (suc i)) (λ i. k.whole (second s) (suc i));
}
