-- Free slots given, one after another, to the wanted pages that have none. Assumes nothing.
use Rattle.std.proofs.Common.{◌≡◌, ℕ, ◌+◌, ◌<◌, ◌≤◌, Bool, true, not, ◌&&◌, List, get_or, sym, ◌∙◌, ⊎_elim, arith}
use Rattle.std.proofs.lemmas.Bool.{cases_lt, ltb-false}
use Rattle.pageset.specs.Sets.{tally, FirstAfter}
use Rattle.address.specs.Pairing.{Sound, Only}
use Rattle.address.specs.Listing.{Listed}
use Rattle.address.proofs.Counting.{owned_full, owned_fewer}
use Rattle.address.proofs.Releasing.{minus_true}

-- the pages up to n are done; those above are as they were; the slots below next are taken
pub record Awarded (p : ℕ → Bool) (old page slot : List ℕ) (a next n : ℕ) : Type 0 where
  pub kept : (k : ℕ) → 0 < get_or old k 0 → get_or slot k 0 ≡ get_or old k 0
  pub later : (k : ℕ) → n < k → get_or slot k 0 ≡ get_or old k 0
  pub only : Only p slot
  pub given : (k : ℕ) → 0 < k → k ≤ n → p k ≡ true → 0 < get_or slot k 0
  pub low : 0 < next
  pub high : next ≤ a + 1
  pub taken : (k : ℕ) → 0 < k → k < next → 0 < get_or page k 0

module _
    (p pages come : ℕ → Bool) (old page slot : List ℕ) (a used next n : ℕ) (sound : Sound page slot a used) (listed : Listed pages old) (minus : (k : ℕ) → come k ≡ (p k && not (pages k))) (was : Awarded p old page slot a next n)
  where
    taken_to : (s : ℕ) → ((k : ℕ) → next ≤ k → k < s → 0 < get_or page k 0) → (k : ℕ) → 0 < k → k < s → 0 < get_or page k 0
    taken_to s f k q l = ⊎_elim
        (λ (g : k < next). was.taken k q g)
        (λ (g : next ≤ k). f k g l)
        (cases_lt k next)

    module _ (m : ℕ) (first : FirstAfter come n m) where
      wanted : p m ≡ true
      wanted = (minus_true (p m) (pages m) (sym (minus m) ∙ first.hit)).0

      -- the next page has no slot
      pub no_slot : get_or slot m 0 ≡ 0
      no_slot = omega (arith, was.later m first.above, ltb-false 0 (get_or old m 0) (sym (listed m) ∙ (minus_true (p m) (pages m) (sym (minus m) ∙ first.hit)).1))

      -- no slot is free for it
      pub awarded_full : ((k : ℕ) → next ≤ k → k ≤ a → 0 < get_or page k 0) → tally p 1024 ≤ a → ⊥
      awarded_full passed few =
          let full = owned_full page a (omega (arith, sound.within.1.0, sound.sized)) (λ k q r. taken_to (a + 1) (λ i g h. passed i g (omega arith)) k q (omega arith)) in
          let f = owned_fewer slot p m sound.sized.1 sound.within.0.1 was.only (omega (arith, first.above)) first.most no_slot wanted in
          omega (arith, full, f, few, sound.counted)
