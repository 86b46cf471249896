-- How a scan goes on. Assumes nothing.
use Rattle.std.proofs.Common.{◌≡◌, ℕ, zero, suc, ◌+◌, ◌-◌, ◌<◌, ◌≤◌, Bool, true, false, ltb, ◌⊎◌, inl, inr, Option, Some, None, List, [], ◌∷◌, ◌++◌, get_or, set, sym, refl, ap, ◌∙◌, ⊎_elim, append-nil, add-one, IfSome, arith}
use Rattle.std.proofs.lemmas.Bool.{cases_Bool, cases_eq, cases_lt, lt-ltb, le-ltb}
use Rattle.std.specs.List.{find, range_with_len}
use Rattle.std.specs.Option.{option_map, unwrap_or, MatchOption}
use Rattle.policy.specs.Answers.{Answer}
use Rattle.policy.specs.Turns.{span, around, first_held, round_taken, came, walk, first_round, chance_taken, chance_left}

-- the first occupied one of n frames from at on is r
pub record Here (occ : List Bool) (at n r : ℕ) : Type 0 where
  pub above : at ≤ r
  pub below : r < at + n
  pub held : get_or occ r false ≡ true
  pub before : (k : ℕ) → at ≤ k → k < r → get_or occ k false ≡ false

abbrev pub Empty : List Bool → ℕ → ℕ → Type 0
Empty occ at n = (k : ℕ) → at ≤ k → k < at + n → get_or occ k false ≡ false

first_cases : (occ : List Bool) (none at n : ℕ) (rest : List ℕ) → Here occ at n (first_held occ none (span at n ++ rest)) ⊎ (Empty occ at n × (first_held occ none (span at n ++ rest) ≡ first_held occ none rest))
unfolding span first_held
first_cases occ none at zero rest = inr (λ k a b. absurd (omega arith), refl)
first_cases occ none at (suc n) rest =
    ⊎_elim
    (λ (held : get_or occ at false ≡ true). rw held (inl (record { above = omega arith; below = omega arith; held = held; before = λ k a b. absurd (omega arith) })))
    (λ (free : get_or occ at false ≡ false).
    let step : (k : ℕ) → (suc at ≤ k → get_or occ k false ≡ false) → at ≤ k → get_or occ k false ≡ false = λ k later a. ⊎_elim (λ (e : k ≡ at). ap (λ (j : ℕ). get_or occ j false) e ∙ free) (λ (n : k ≡ at → ⊥). later (omega arith)) (cases_eq k at) in
    rw free
    (⊎_elim
    (λ (h : Here occ (suc at) n (first_held occ none (span (suc at) n ++ rest))).
    inl (record { above = omega (arith, h.above); below = omega (arith, h.below); held = h.held; before = λ k a b. step k (λ l. h.before k l b) a }))
    (λ (h : Empty occ (suc at) n × (first_held occ none (span (suc at) n ++ rest) ≡ first_held occ none rest)).
    inr (λ k a b. step k (λ l. h.0 k l (omega arith)) a, h.1))
    (first_cases occ none (suc at) n rest)))
    (cases_Bool (get_or occ at false))

pub first_at : (occ : List Bool) (none at n : ℕ) (rest : List ℕ) (r : ℕ) → r ≡ first_held occ none (span at n ++ rest) → Here occ at n r ⊎ (Empty occ at n × (r ≡ first_held occ none rest))
first_at occ none at n rest r e = rw e (first_cases occ none at n rest)

-- what round robin takes is an answer
pub round_answer : (occ : List Bool) (f next : ℕ) → next ≤ f → Answer occ f (round_taken occ f next)
unfolding around round_taken first_held
round_answer occ f next w =
    let r : ℕ = round_taken occ f next in
    ⊎_elim
    (λ (h : Here occ next (f - next) r). record { within = omega (arith, h.below); found = λ l. h.held; none = λ e. absurd (omega (arith, h.below)) })
    (λ (h : Empty occ next (f - next) × (r ≡ first_held occ f (span 0 next))).
    ⊎_elim
    (λ (g : Here occ 0 next r). record { within = omega (arith, g.below); found = λ l. g.held; none = λ e. absurd (omega (arith, g.below)) })
    (λ (g : Empty occ 0 next × (r ≡ first_held occ f [])). record {
      within = omega (arith, g.1);
      found = λ l. absurd (omega (arith, g.1));
      none = λ e k l. ⊎_elim (λ (m : k < next). g.0 k (omega arith) (omega arith)) (λ (m : next ≤ k). h.0 k m (omega arith)) (cases_lt k next);
    })
    (first_at occ f 0 next [] r (h.1 ∙ ap (first_held occ f) (sym (append-nil (span 0 next))))))
    (first_at occ f next (f - next) (span 0 next) r refl)

-- a search finds what round robin takes

span_is : (k n : ℕ) → span k n ≡ range_with_len k n
unfolding span
span_is k zero = refl
span_is k (suc n) = let e : suc k ≡ k + 1 = omega arith in ap (λ ks. k ∷ ks) (span_is (suc k) n ∙ ap (λ j. range_with_len j n) e)

first_is : (occ : List Bool) (none : ℕ) (ks : List ℕ) → unwrap_or (find (λ k. get_or occ k false) ks) none ≡ first_held occ none ks
unfolding first_held
first_is occ none [] = refl
first_is occ none (k ∷ ks) =
    ⊎_elim
    (λ (held : get_or occ k false ≡ true). rw held refl)
    (λ (free : get_or occ k false ≡ false). rw free (first_is occ none ks))
    (cases_Bool (get_or occ k false))

same_or : (r : Option ℕ) (none : ℕ) → unwrap_or r none ≡ unwrap_or (option_map (λ k. k) r) none
same_or None none = refl
same_or (Some k) none = refl

pub round_is : (occ : List Bool) (f next : ℕ) (r : Option ℕ) → option_map (λ k. k) r ≡ find (λ k. get_or occ k false) (range_with_len next (f - next) ++ range_with_len 0 (next - 0)) → unwrap_or r f ≡ round_taken occ f next
unfolding around round_taken
round_is occ f next r e =
    let z : next - 0 ≡ next = omega arith in
    same_or r f
    ∙ ap (λ (o : Option ℕ). unwrap_or o f) e
    ∙ first_is occ f (range_with_len next (f - next) ++ range_with_len 0 (next - 0))
    ∙ ap (λ m. first_held occ f (range_with_len next (f - next) ++ range_with_len 0 m)) z
    ∙ ap (λ ks. first_held occ f (ks ++ range_with_len 0 next)) (sym (span_is next (f - next)))
    ∙ ap (λ ks. first_held occ f (span next (f - next) ++ ks)) (sym (span_is 0 next))

span_step : (k high : ℕ) (rest : List ℕ) → k < high → span k (high - k) ++ rest ≡ k ∷ (span (k + 1) (high - (k + 1)) ++ rest)
unfolding span
span_step k high rest l =
    let more : high - k ≡ suc (high - (k + 1)) = omega arith in
    rw (more, add-one)

-- a walk passes an empty frame
pub walk_empty : (occ ts : List Bool) (k high : ℕ) → k < high → get_or occ k false ≡ false → (none : ℕ) (rest : List ℕ) → walk occ none (span k (high - k) ++ rest) ts ≡ walk occ none (span (k + 1) (high - (k + 1)) ++ rest) ts
unfolding walk
walk_empty occ ts k high l empty none rest = rw (span_step k high rest l, empty)

-- it passes an occupied frame that was touched
pub walk_touched : (occ ts : List Bool) (k high : ℕ) → k < high → get_or occ k false ≡ true → get_or ts k false ≡ true → (none : ℕ) (rest : List ℕ) → walk occ none (span k (high - k) ++ rest) ts ≡ walk occ none (span (k + 1) (high - (k + 1)) ++ rest) (set ts k false)
unfolding walk
walk_touched occ ts k high l held touched none rest = rw (span_step k high rest l, held, touched)

-- it takes one that was not
pub walk_idle : (occ ts : List Bool) (k high : ℕ) → k < high → get_or occ k false ≡ true → get_or ts k false ≡ false → (none : ℕ) (rest : List ℕ) → walk occ none (span k (high - k) ++ rest) ts ≡ came k ts
unfolding walk
walk_idle occ ts k high l held idle none rest = rw (span_step k high rest l, held, idle)

-- the end of a part
pub walk_over : (occ ts : List Bool) (k high : ℕ) → high ≤ k → (none : ℕ) (rest : List ℕ) → walk occ none (span k (high - k) ++ rest) ts ≡ walk occ none rest ts
unfolding span
walk_over occ ts k high l none rest = let z : high - k ≡ 0 = omega arith in rw z

-- the first round takes a frame of the first part
pub chance_later : (occ ts ts' : List Bool) (f next r : ℕ) → r < f → walk occ f (span next (f - next) ++ span 0 next) ts ≡ came r ts' → (r ≡ chance_taken occ ts f next) × (ts' ≡ chance_left occ ts f next)
unfolding around first_round chance_taken chance_left
chance_later occ ts ts' f next r l e = (rw (e, lt-ltb r f l), rw (chance_left, e))

second_part : (occ ts : List Bool) (f next : ℕ) → walk occ f (span 0 next) ts ≡ walk occ f (span 0 (next - 0) ++ []) ts
second_part occ ts f next =
    let same : next - 0 ≡ next = omega arith in
    rw same (ap (λ ks. walk occ f ks ts) (sym (append-nil (span 0 next))))

-- of the second part
pub chance_sooner : (occ ts ts' ts'' : List Bool) (f next r : ℕ) → r < f → walk occ f (span next (f - next) ++ span 0 next) ts ≡ walk occ f (span 0 next) ts' → walk occ f (span 0 (next - 0) ++ []) ts' ≡ came r ts'' → (r ≡ chance_taken occ ts f next) × (ts'' ≡ chance_left occ ts f next)
chance_sooner occ ts ts' ts'' f next r l d e = chance_later occ ts ts'' f next r l (d ∙ second_part occ ts' f next ∙ e)

-- or none
pub chance_none : (occ ts ts' ts'' : List Bool) (f next r : ℕ) → walk occ f (span next (f - next) ++ span 0 next) ts ≡ walk occ f (span 0 next) ts' → walk occ f (span 0 (next - 0) ++ []) ts' ≡ walk occ f [] ts'' → r ≡ round_taken occ f next → (r ≡ chance_taken occ ts f next) × (ts'' ≡ chance_left occ ts f next)
unfolding walk around first_round chance_taken chance_left
chance_none occ ts ts' ts'' f next r d e t =
    let went = d ∙ second_part occ ts' f next ∙ e in
    let no : ltb f f ≡ false = le-ltb f f (omega arith) in
    (rw (went, no) t, rw (chance_left, went))

-- the second part, and after it the next round
pub chance_rest : (occ ts ts' ts'' : List Bool) (f next : ℕ) (q r : Option ℕ) (P : Type 0) → next ≤ f → walk occ f (span next (f - next) ++ span 0 next) ts ≡ walk occ f (span 0 next) ts' → IfSome q (λ k. (k < next) × (get_or occ k false ≡ true)) → IfSome q (λ k. (none : ℕ) (rest : List ℕ) → walk occ none (span 0 (next - 0) ++ rest) ts' ≡ came k ts'') → (q ≡ None → (none : ℕ) (rest : List ℕ) → walk occ none (span 0 (next - 0) ++ rest) ts' ≡ walk occ none rest ts'') → MatchOption q P (λ k. r ≡ Some k) → (P → unwrap_or r f ≡ round_taken occ f next) → (unwrap_or r f ≡ chance_taken occ ts f next) × (ts'' ≡ chance_left occ ts f next)
chance_rest occ ts ts' ts'' f next None r P w d found taken over m turn = chance_none occ ts ts' ts'' f next (unwrap_or r f) d (over refl f []) (turn m)
chance_rest occ ts ts' ts'' f next (Some k) r P w d found taken over m turn = rw m (chance_sooner occ ts ts' ts'' f next k (omega (arith, found.0)) d (taken f []))
