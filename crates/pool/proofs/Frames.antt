-- What the frames need, and what giving one up leaves. Assumes nothing.
use Rattle.std.proofs.Common.{◌≡◌, ℕ, zero, suc, ◌+◌, ◌<◌, ◌≤◌, Bool, true, false, cond, ◌||◌, ◌⊎◌, List, [], ◌∷◌, ◌++◌, map, length, get_or, take, set, replicate, is_some, Some, None, Option, sym, refl, ap, ◌∙◌, subst, inl, inr, ⊎_elim, arith, get_or-set_other}
use Rattle.std.proofs.lemmas.List.{take_more, length-map, get_or-map, get_or_past}
use Rattle.std.proofs.lemmas.Bool.{cases_lt, both_ways, or_cases, or_left, or_right, or_from}
use Rattle.pageset.specs.Sets.{holds, tally}
use Rattle.address.specs.declared.table.AddressTable.{AddressTable}
use Rattle.page.specs.declared.descriptor.Descriptor.{Descriptor}
use Rattle.page.specs.declared.catalogue.ClosedCatalogue.{ClosedCatalogue}
use Rattle.policy.specs.Answers.{Answer}
use Rattle.store.specs.Pages.{Page}
use Rattle.frame.specs.declared.frame.Frame.{Frame}
use Rattle.pool.specs.Needs.{asks, needed, whole, Covers}
use Rattle.pool.specs.Leaving.{Empty, put_back, Enough, Lacks, Leaves, Went}

-- sets that agree on the pages 1 to n have as many of them
pub tally_same : (p q : ℕ → Bool) (n : ℕ) → ((k : ℕ) → 0 < k → k ≤ n → p k ≡ q k) → tally p n ≡ tally q n
unfolding tally
tally_same p q zero h = refl
tally_same p q (suc n) h =
    ap (λ b. tally p n + cond b 1 0) (h (suc n) (omega arith) (omega arith))
    ∙ ap (λ m. m + cond (q (suc n)) 1 0) (tally_same p q n (λ k a b. h k a (omega arith)))

or_swap : (x y z : Bool) → (x || (y || z)) ≡ ((x || y) || z)
or_swap true y z = refl
or_swap false y z = refl

or_none : (x : Bool) → (x || false) ≡ x
or_none true = refl
or_none false = refl

-- one frame more
needed_push : (fs : List (Option Frame)) (x : Option Frame) (n : ℕ) → needed (fs ++ x ∷ []) n ≡ (needed fs n || asks x n)
needed_push [] x n = or_none (asks x n)
needed_push (f ∷ fs) x n = rw (needed_push fs x n) (or_swap (asks f n) (needed fs n) (asks x n))

needed_more : (fs : List (Option Frame)) (k n : ℕ) → k < length fs → needed (take (k + 1) fs) n ≡ (needed (take k fs) n || asks (get_or fs k None) n)
needed_more fs k n h = ap (λ (xs : List (Option Frame)). needed xs n) (take_more fs k None h) ∙ needed_push (take k fs) (get_or fs k None) n

-- a page needed after a write to a frame is needed by what was written or was needed before
pub needed_set : (fs : List (Option Frame)) (i : ℕ) (x : Option Frame) (n : ℕ) → needed (set fs i x) n ≡ true → (asks x n ≡ true) ⊎ (needed fs n ≡ true)
needed_set [] i x n e = inr e
needed_set (f ∷ fs) zero x n e = ⊎_elim (λ (a : asks x n ≡ true). inl a) (λ (b : needed fs n ≡ true). inr (or_right (asks f n) (needed fs n) b)) (or_cases (asks x n) (needed fs n) e)
needed_set (f ∷ fs) (suc i) x n e =
    ⊎_elim
    (λ (a : asks f n ≡ true). inr (or_left (asks f n) (needed fs n) a))
    (λ (b : needed (set fs i x) n ≡ true). ⊎_elim (λ (p : asks x n ≡ true). inl p) (λ (q : needed fs n ≡ true). inr (or_right (asks f n) (needed fs n) q)) (needed_set fs i x n b))
    (or_cases (asks f n) (needed (set fs i x) n) e)

-- empty frames need nothing
none_asks : (x : Option Frame) (n : ℕ) → is_some x ≡ false → asks x n ≡ false
none_asks None n e = refl
none_asks (Some h) n e = absurd (both_ways true e refl)

pub needed_none : (fs : List (Option Frame)) (n : ℕ) → ((k : ℕ) → Empty fs k) → needed fs n ≡ false
needed_none [] n h = refl
needed_none (f ∷ fs) n h = or_from (asks f n) (needed fs n) (none_asks f n (h 0)) (needed_none fs n (λ k. h (suc k)))

pub frames_none : (k j : ℕ) → Empty (replicate k None) j
frames_none zero j = refl
frames_none (suc k) zero = refl
frames_none (suc k) (suc j) = frames_none k j

-- a frame that is given up takes no slot's right away from what is left
pub covers_less : (slot : List ℕ) (fs : List (Option Frame)) (v : ℕ) → Covers slot (needed fs) → Covers slot (needed (set fs v None))
covers_less slot fs v h n p l e =
    h n p l (⊎_elim (λ (z : false ≡ true). absurd (both_ways false refl z)) (λ (q : needed fs n ≡ true). q) (needed_set fs v None n e))

-- an empty frame stays empty
pub empty_set : (fs : List (Option Frame)) (v k : ℕ) → Empty fs k → Empty (set fs v None) k
empty_set [] v k e = e
empty_set (f ∷ fs) zero zero e = refl
empty_set (f ∷ fs) zero (suc k) e = e
empty_set (f ∷ fs) (suc v) zero e = e
empty_set (f ∷ fs) (suc v) (suc k) e = empty_set fs v k e

-- one turn of gathering what the frames need
pub need_turn : (fs : List (Option Frame)) (k n : ℕ) (x y b : Bool) → k < length fs → x ≡ (b || needed (take k fs) n) → y ≡ (x || asks (get_or fs k None) n) → y ≡ (b || needed (take (k + 1) fs) n)
need_turn fs k n x y b h e d =
    d ∙ ap (λ z. z || asks (get_or fs k None) n) e ∙ sym (or_swap b (needed (take k fs) n) (asks (get_or fs k None) n)) ∙ ap (λ z. b || z) (sym (needed_more fs k n h))

pub some_asks : (x : Option Frame) (h : Frame) (n : ℕ) → x ≡ Some h → asks x n ≡ holds h.needs.words n
some_asks x h n e = ap (λ (z : Option Frame). asks z n) e

pub not_held : (x : Option Frame) → ((h : Frame) → x ≡ Some h → ⊥) → is_some x ≡ false
not_held None q = refl
not_held (Some h) q = absurd (q h refl)

pub pass_asks : (x : Option Frame) (n : ℕ) (b : Bool) → is_some x ≡ false → b ≡ (b || asks x n)
pass_asks x n b e = sym (ap (λ z. b || z) (none_asks x n e) ∙ or_none b)

-- a policy that picks no occupied frame has none to pick
pub stuck : (fs : List (Option Frame)) (occ : List Bool) (f size v : ℕ) → size ≡ f → Answer occ size v → ((k : ℕ) → get_or occ k false ≡ is_some (get_or fs k None)) → ((k : ℕ) → f ≤ k → Empty fs k) → (v < f → Empty fs v) → (k : ℕ) → Empty fs k
stuck fs occ f size v e a same spare not k =
    ⊎_elim
    (λ (l : v < f). absurd (both_ways (is_some (get_or fs v None)) (not l) (sym (same v) ∙ a.found (omega (arith, e, l)))))
    (λ (l : f ≤ v). ⊎_elim
    (λ (m : k < f). sym (same k) ∙ a.none (omega (arith, e, l, a.within)) k (omega (arith, e, m)))
    (λ (m : f ≤ k). spare k m)
    (cases_lt k f))
    (cases_lt v f)

pub marks_at : (fs : List (Option Frame)) (occ : List Bool) → occ ≡ map is_some fs → (k : ℕ) → get_or occ k false ≡ is_some (get_or fs k None)
marks_at fs occ e k =
    ap (λ (xs : List Bool). get_or xs k false) e
    ∙ ⊎_elim
    (λ (l : k < length fs). get_or-map is_some fs k None false l)
    (λ (l : length fs ≤ k). get_or_past (map is_some fs) k false (omega (arith, length-map fs is_some, l)) ∙ sym (ap (λ (x : Option Frame). is_some x) (get_or_past fs k None l)))
    (cases_lt k (length fs))

-- where all frames are empty there is room
pub enough_empty : (p : ℕ → Bool) (a f : ℕ) (fs : List (Option Frame)) → ((k : ℕ) → Empty fs k) → 0 < f → tally p 1024 ≤ a → Enough p a f fs
enough_empty p a f fs all low few = record {
  free = (0, (low, all 0));
  fits = let s = tally_same (whole p fs) p 1024 (λ k _ _. ap (λ b. p k || b) (needed_none fs k all) ∙ or_none (p k)) in omega (arith, s, few);
}

module _ {Pol Sto : Type 0} (picks : Pol → List Bool → ℕ → Pol → Type 0) (pages : Sto → List Page) (ts : List Descriptor) (page : List ℕ) (p : ℕ → Bool) (a f : ℕ) where
  -- one victim more
  pub went_more : (vs : List ℕ) (fs : List (Option Frame)) (pol : Pol) (st : Sto) (gs : List (Option Frame)) (last : Pol) (end : Sto) (v : ℕ) (last' : Pol) (end' : Sto)
      → Went picks pages ts page p a f fs pol st vs gs last end → Leaves picks pages ts page p a f gs v last last' end end'
      → Went picks pages ts page p a f fs pol st (vs ++ v ∷ []) (set gs v None) last' end'
  went_more [] fs pol st gs last end v last' end' w l =
      let l1 = subst (λ (x : List (Option Frame)). Leaves picks pages ts page p a f x v last last' end end') w.0 l in
      let l2 = subst (λ (x : Pol). Leaves picks pages ts page p a f fs v x last' end end') w.1.0 l1 in
      let l3 = subst (λ (x : Sto). Leaves picks pages ts page p a f fs v pol last' x end') w.1.1 l2 in
      (last', (end', (l3, (ap (λ (x : List (Option Frame)). set x v None) w.0, (refl, refl)))))
  went_more (u ∷ vs) fs pol st gs last end v last' end' w l = (w.0, (w.1.0, (w.1.1.0, went_more vs (set fs u None) w.0 w.1.0 gs last end v last' end' w.1.1.1 l)))

  -- a frame that is no victim is as it was
  pub went_others : (vs : List ℕ) (fs : List (Option Frame)) (pol : Pol) (st : Sto) (gs : List (Option Frame)) (last : Pol) (end : Sto) (k : ℕ)
      → Went picks pages ts page p a f fs pol st vs gs last end → Lacks vs k → get_or gs k None ≡ get_or fs k None
  went_others [] fs pol st gs last end k w n = ap (λ (x : List (Option Frame)). get_or x k None) w.0
  went_others (v ∷ vs) fs pol st gs last end k w n = went_others vs (set fs v None) w.0 w.1.0 gs last end k w.1.1.1 n.1 ∙ get_or-set_other fs v k None None n.0

-- the same room, where slots and frames are as many
pub enough_at : (p : ℕ → Bool) (a a' f f' : ℕ) (fs : List (Option Frame)) → a' ≡ a → f' ≡ f → Enough p a f fs → Enough p a' f' fs
enough_at p a a' f f' fs q r e = record {
  free = (e.free.0, (omega (arith, r, e.free.1.0), e.free.1.1));
  fits = omega (arith, q, e.fits);
}

module _ {Pol Sto : Type 0} (picks : Pol → List Bool → ℕ → Pol → Type 0) (pages : Sto → List Page) (types : ClosedCatalogue → List Descriptor) (p : ℕ → Bool) (k k' : ClosedCatalogue) (t t' : AddressTable) (f f' : ℕ) (same : k' ≡ k) (q : t' ≡ t) (r : f' ≡ f) where
  -- a turn in which a victim leaves
  pub went_turn : (vs : List ℕ) (fs : List (Option Frame)) (pol : Pol) (st : Sto) (gs : List (Option Frame)) (last : Pol) (end : Sto) (v : ℕ) (gs' : List (Option Frame)) (last' : Pol) (end' : Sto)
      → Went picks pages (types k) t.page_of p t.slots f fs pol st vs gs last end → gs' ≡ set gs v None
      → (Enough p t'.slots f' gs → ⊥) → is_some (get_or gs v None) ≡ true → picks last (map is_some gs) v last' → pages end' ≡ put_back (types k') t'.page_of (get_or gs v None) (pages end)
      → (ws : List ℕ) × Went picks pages (types k) t.page_of p t.slots f fs pol st ws gs' last' end'
  went_turn vs fs pol st gs last end v gs' last' end' went after lacking occupied picked noted =
      let l : Leaves picks pages (types k) t.page_of p t.slots f gs v last last' end end' = record {
        lacking = λ e. lacking (enough_at p t.slots t'.slots f f' gs (ap (λ (x : AddressTable). x.slots) q) r e);
        occupied = occupied;
        picked = picked;
        noted = noted ∙ ap (λ (x : ClosedCatalogue). put_back (types x) t'.page_of (get_or gs v None) (pages end)) same ∙ ap (λ (x : AddressTable). put_back (types k) x.page_of (get_or gs v None) (pages end)) q;
      } in
      (vs ++ v ∷ [], rw after (went_more picks pages (types k) t.page_of p t.slots f vs fs pol st gs last end v last' end' went l))
