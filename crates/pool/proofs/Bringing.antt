-- The slots after all that is needed was given one. Assumes nothing.
use Rattle.std.proofs.Common.{◌≡◌, ℕ, ◌<◌, ◌≤◌, Bool, true, false, ltb, List, get_or, set, is_some, Some, None, Option, sym, ap, ◌∙◌, ⊎_elim, arith, get_or-set_other}
use Rattle.std.proofs.lemmas.Bool.{cases_lt, cases_Bool, both_ways, or_left, or_right, lt-ltb, le-ltb}
use Rattle.pageset.specs.Sets.{holds, tally}
use Rattle.address.specs.Pairing.{Only, All}
use Rattle.frame.specs.declared.frame.Frame.{Frame}
use Rattle.pool.specs.Needs.{needed, whole, Covers}
use Rattle.page.specs.declared.descriptor.Descriptor.{Descriptor}
use Rattle.store.specs.Pages.{Page}
use Rattle.pool.specs.Leaving.{Empty, Lacks, Went}
use Rattle.pool.proofs.Frames.{tally_same, needed_set, went_others}

module _
    (p wanted : ℕ → Bool) (rest : List (Option Frame)) (a : ℕ) (slot slot' : List ℕ)
    (w : (n : ℕ) → wanted n ≡ whole p rest n)
    (few : tally (whole p rest) 1024 ≤ a)
    (kept : (n : ℕ) → wanted n ≡ true → 0 < get_or slot n 0 → get_or slot' n 0 ≡ get_or slot n 0)
    (only : Only wanted slot')
    (all : tally wanted 1024 ≤ a → All wanted slot' 1025)
  where
    given : (n : ℕ) → 0 < n → n ≤ 1024 → whole p rest n ≡ true → 0 < get_or slot' n 0
    given n low l e =
        let s = tally_same wanted (whole p rest) 1024 (λ k _ _. w k) in
        all (omega (arith, s, few)) n low (omega (arith, l)) (w n ∙ e)

    pub slots_are : (m : ℕ) → 0 < m → m ≤ 1024 → ltb 0 (get_or slot' m 0) ≡ whole p rest m
    slots_are m low l =
        ⊎_elim
        (λ (e : whole p rest m ≡ true). lt-ltb 0 (get_or slot' m 0) (given m low l e) ∙ sym e)
        (λ (e : whole p rest m ≡ false).
        ⊎_elim
        (λ (x : 0 < get_or slot' m 0). absurd (both_ways (wanted m) (w m ∙ e) (only m x)))
        (λ (x : get_or slot' m 0 ≤ 0). le-ltb 0 (get_or slot' m 0) x ∙ sym e)
        (cases_lt 0 (get_or slot' m 0)))
        (cases_Bool (whole p rest m))

    pub slots_stay : (m : ℕ) → whole p rest m ≡ true → 0 < get_or slot m 0 → get_or slot' m 0 ≡ get_or slot m 0
    slots_stay m e h = kept m (w m ∙ e) h

    -- the page that came has slots for all that it needs
    pub covers_new : (i : ℕ) (f : Frame) → ((m : ℕ) → holds f.needs.words m ≡ true → p m ≡ true) → Covers slot' (needed (set rest i (Some f)))
    covers_new i f e n low l d =
        given n low l (⊎_elim
        (λ (c : holds f.needs.words n ≡ true). or_left (p n) (needed rest n) (e n c))
        (λ (c : needed rest n ≡ true). or_right (p n) (needed rest n) c)
        (needed_set rest i (Some f) n d))

-- frames past f stay empty
pub spare_new : (rest : List (Option Frame)) (f i : ℕ) (x : Option Frame) → i < f → ((k : ℕ) → f ≤ k → Empty rest k) → (k : ℕ) → f ≤ k → Empty (set rest i x) k
spare_new rest f i x l spare k h = ap (λ (y : Option Frame). is_some y) (get_or-set_other rest i k x None (λ e. omega (arith, e, l, h))) ∙ spare k h

-- a frame that is neither a victim nor the new one is as it was
pub others_new : {Pol Sto : Type 0} (picks : Pol → List Bool → ℕ → Pol → Type 0) (pages : Sto → List Page) (ts : List Descriptor) (page : List ℕ) (p : ℕ → Bool) (a f : ℕ) (vs : List ℕ) (fs : List (Option Frame)) (pol : Pol) (st : Sto) (rest : List (Option Frame)) (last : Pol) (end : Sto) (i : ℕ) (x : Option Frame)
    → Went picks pages ts page p a f fs pol st vs rest last end → (k : ℕ) → Lacks vs k → (k ≡ i → ⊥) → get_or (set rest i x) k None ≡ get_or fs k None
others_new picks pages ts page p a f vs fs pol st rest last end i x w k n e = get_or-set_other rest i k x None e ∙ went_others picks pages ts page p a f vs fs pol st rest last end k w n
