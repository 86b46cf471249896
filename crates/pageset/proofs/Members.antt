-- The pages of a set of words. Assumes nothing.
use Rattle.std.proofs.Common.{◌≡◌, ℕ, zero, suc, ◌+◌, ◌-◌, ◌*◌, ◌/◌, ◌%◌, ◌^◌, ◌<◌, ◌≤◌, Bool, true, false, ◌≢◌, List, [], ◌∷◌, length, get_or, take, map, sum, set, add-one, replicate, sym, refl, ap, ◌∙◌, subst, ⊎_elim, ◌⊎◌, inl, inr, arith, get_or-set_other, get_or-set_same}
use lib.Count.{ones, count_trailing_zeros}
use Rattle.std.proofs.lemmas.Nat.{shr_le}
use Rattle.std.proofs.lemmas.List.{get_or_past, take_all}
use Rattle.std.specs.List.{sum_by}
use Rattle.std.proofs.lemmas.List.Sums.{sum_by_more, sum-map}
use Rattle.std.proofs.lemmas.Bool.{cases_lt, cases_eq, both_ways}
use Rattle.pageset.specs.Sets.{bit, bit_at, holds, tally, Words, FirstAfter}
use Rattle.pageset.proofs.Digits.{bit_shr, bit_none, bit_high, tz_low, tz_hit, count, ones_count}

-- page n is bit n - 1
pub holds_suc : (ws : List ℕ) (k : ℕ) → holds ws (suc k) ≡ bit (get_or ws (k / 64) 0) (k % 64)
unfolding holds bit_at
holds_suc ws k = refl

pub holds_zero : (ws : List ℕ) → holds ws 0 ≡ false
unfolding holds
holds_zero ws = refl

pub holds_at : (ws : List ℕ) (n : ℕ) → 0 < n → holds ws n ≡ bit (get_or ws ((n - 1) / 64) 0) ((n - 1) % 64)
holds_at ws zero p = absurd (omega arith)
holds_at ws (suc k) p = let e : suc k - 1 ≡ k = omega arith in rw e (holds_suc ws k)

-- no page past the words
pub holds_past : (ws : List ℕ) (n : ℕ) → length ws ≡ 16 → 1024 < n → holds ws n ≡ false
holds_past ws n l h = holds_at ws n (omega arith) ∙ rw (get_or_past ws ((n - 1) / 64) 0 (omega arith)) (bit_none ((n - 1) % 64))

-- a list of zeros, past its end too
pub zeros : (n k : ℕ) → get_or {A = ℕ} (replicate n 0) k 0 ≡ 0
zeros zero k = refl
zeros (suc n) zero = refl
zeros (suc n) (suc k) = zeros n k

-- no page in words of no bit
pub holds_none : (ws : List ℕ) (n : ℕ) → ((k : ℕ) → get_or ws k 0 ≡ 0) → holds ws n ≡ false
holds_none ws zero h = holds_zero ws
holds_none ws (suc k) h = holds_suc ws k ∙ rw (h (k / 64)) (bit_none (k % 64))

-- words made one by one of those of two sets, whose pages then are made of the pages
module _
    (op : ℕ → ℕ → ℕ) (b : Bool → Bool → Bool) (nothing : b false false ≡ false)
    (bits : (v w k : ℕ) → w < 2 ^ 64 → k < 64 → bit (op v w) k ≡ b (bit v k) (bit w k))
    (fits : (v w : ℕ) → v < 2 ^ 64 → w < 2 ^ 64 → op v w < 2 ^ 64)
    (vs ws us : List ℕ) (vl : length vs ≡ 16) (wl : length ws ≡ 16) (ul : length us ≡ 16) (vh : Words vs) (wh : Words ws)
    (each : (k d : ℕ) → k < 16 → get_or us k d ≡ op (get_or vs k 0) (get_or ws k 0))
  where
    pub holds_each : (n : ℕ) → holds us n ≡ b (holds vs n) (holds ws n)
    holds_each zero = rw (holds_zero vs, holds_zero ws, holds_zero us, nothing) refl
    holds_each (suc k) = ⊎_elim
        (λ (h : k / 64 < 16). rw (holds_suc vs k, holds_suc ws k, holds_suc us k, each (k / 64) 0 h) (bits (get_or vs (k / 64) 0) (get_or ws (k / 64) 0) (k % 64) (wh (k / 64)) (omega arith)))
        (λ (h : 16 ≤ k / 64). rw (holds_past vs (suc k) vl (omega arith), holds_past ws (suc k) wl (omega arith), holds_past us (suc k) ul (omega arith), nothing) refl)
        (cases_lt (k / 64) 16)

    pub words_each : Words us
    words_each k = ⊎_elim
        (λ (h : k < 16). rw (each k 0 h) (fits (get_or vs k 0) (get_or ws k 0) (vh k) (wh k)))
        (λ (h : 16 ≤ k). rw (get_or_past us k 0 (omega arith)) (omega arith))
        (cases_lt k 16)

-- page n put in or taken out, by the word v for its word i, where it is bit j
module _
    (ws : List ℕ) (n i j v : ℕ) (long : length ws ≡ 16) (at : (0 < n) × (n ≤ 1024) × (i ≡ (n - 1) / 64) × (j ≡ (n - 1) % 64)) (kept : (b : ℕ) → b < 64 → b ≢ j → bit v b ≡ bit (get_or ws i 0) b)
  where
    abbrev pub changed : List ℕ
    changed = set ws i v

    pub changed_there : holds changed n ≡ bit v j
    changed_there = holds_at changed n at.0 ∙ rw (sym at.2, sym at.3) (ap (λ (w : ℕ). bit w j) (get_or-set_same ws i v 0 (omega arith)))

    pub changed_others : (m : ℕ) → (m ≡ n → ⊥) → holds changed m ≡ holds ws m
    changed_others zero h = holds_zero changed ∙ sym (holds_zero ws)
    changed_others (suc m) h = ⊎_elim
        (λ (e : m / 64 ≡ i).
        holds_suc changed m ∙ rw e (ap (λ (w : ℕ). bit w (m % 64)) (get_or-set_same ws i v 0 (omega arith)) ∙ kept (m % 64) (omega arith) (λ f. h (omega arith)) ∙ sym (rw e at (holds_suc ws m))))
        (λ (e : m / 64 ≢ i).
        holds_suc changed m ∙ ap (λ (w : ℕ). bit w (m % 64)) (get_or-set_other ws i (m / 64) v 0 e) ∙ sym (holds_suc ws m))
        (cases_eq (m / 64) i)

-- words that are set stay words
pub words_set : (ws : List ℕ) (i v : ℕ) → Words ws → v < 2 ^ 64 → Words (set ws i v)
words_set [] i v h p k = h k
words_set (x ∷ xs) zero v h p zero = p
words_set (x ∷ xs) zero v h p (suc k) = h (suc k)
words_set (x ∷ xs) (suc i) v h p zero = h 0
words_set (x ∷ xs) (suc i) v h p (suc k) = words_set xs i v (λ j. h (suc j)) p k

-- the pages of word i
part : (ws : List ℕ) (i d : ℕ) → d ≤ 64 → tally (holds ws) (64 * i + d) ≡ tally (holds ws) (64 * i) + count (bit (get_or ws i 0)) d
unfolding tally count
part ws i zero h = let e : 64 * i + 0 ≡ 64 * i = omega arith in rw e (omega arith)
part ws i (suc d) h =
    let e : 64 * i + suc d ≡ suc (64 * i + d) = omega arith in
    let q : (64 * i + d) / 64 ≡ i = omega arith in
    let r : (64 * i + d) % 64 ≡ d = omega arith in
    let s : holds ws (suc (64 * i + d)) ≡ bit (get_or ws i 0) d = holds_suc ws (64 * i + d) ∙ rw (q, r) refl in
    let b = part ws i d (omega arith) in
    rw (e, s) (omega (arith, b))

pub tally_word : (ws : List ℕ) (i : ℕ) → get_or ws i 0 < 2 ^ 64 → tally (holds ws) (64 * (i + 1)) ≡ tally (holds ws) (64 * i) + ones (get_or ws i 0)
tally_word ws i h =
    let e : 64 * (i + 1) ≡ 64 * i + 64 = omega arith in
    rw (e, ones_count 64 (get_or ws i 0) h) (part ws i 64 (omega arith))

pub tally_none : (p : ℕ → Bool) → tally p 0 ≡ 0
unfolding tally
tally_none p = refl

pub whole : (w : ℕ) → w ≡ w / 2 ^ 0
whole w = omega arith

-- the pages of word i from its bit j on, where v has those bits
module _
    (ws : List ℕ) (i j v : ℕ) (word : get_or ws i 0 < 2 ^ 64) (e : v ≡ get_or ws i 0 / 2 ^ j) (inside : j < 64)
  where
    bit_there : (t : ℕ) → j + t < 64 → holds ws (64 * i + j + 1 + t) ≡ bit v t
    bit_there t h =
        let s : 64 * i + j + 1 + t ≡ suc (64 * i + j + t) = omega arith in
        let q : (64 * i + j + t) / 64 ≡ i = omega arith in
        let r : (64 * i + j + t) % 64 ≡ j + t = omega arith in
        rw s (holds_suc ws (64 * i + j + t) ∙ rw (q, r, e) (sym (bit_shr (get_or ws i 0) j t)))

    small : v < 2 ^ 64
    small = omega (arith, shr_le (get_or ws i 0) j)

    pub hit_inside : 0 < v → j + count_trailing_zeros 64 v < 64
    hit_inside p = ⊎_elim
        (λ (h : j + count_trailing_zeros 64 v < 64). h)
        (λ (h : 64 ≤ j + count_trailing_zeros 64 v).
        let f = bit_high 64 (get_or ws i 0) (j + count_trailing_zeros 64 v) word h in
        let g : bit v (count_trailing_zeros 64 v) ≡ false = ap (λ (x : ℕ). bit x (count_trailing_zeros 64 v)) e ∙ bit_shr (get_or ws i 0) j (count_trailing_zeros 64 v) ∙ f in
        absurd (both_ways (bit v (count_trailing_zeros 64 v)) g (tz_hit 64 v p small)))
        (cases_lt (j + count_trailing_zeros 64 v) 64)

    pub hit : 0 < v → holds ws (64 * i + j + 1 + count_trailing_zeros 64 v) ≡ true
    hit p = bit_there (count_trailing_zeros 64 v) (hit_inside p) ∙ tz_hit 64 v p small

    clear : (n : ℕ) → 64 * i + j < n → n ≤ 64 * i + 64 → bit v (n - (64 * i + j + 1)) ≡ false → holds ws n ≡ false
    clear n p q f =
        let s : 64 * i + j + 1 + (n - (64 * i + j + 1)) ≡ n = omega arith in
        subst (λ (m : ℕ). holds ws m ≡ false) s (bit_there (n - (64 * i + j + 1)) (omega arith) ∙ f)

    pub before : 0 < v → (n : ℕ) → 64 * i + j < n → n < 64 * i + j + 1 + count_trailing_zeros 64 v → holds ws n ≡ false
    before p n q r = clear n q (omega (arith, hit_inside p)) (tz_low 64 v (n - (64 * i + j + 1)) (omega arith))

    pub nothing : v ≡ 0 → (n : ℕ) → 64 * i + j < n → n ≤ 64 * i + 64 → holds ws n ≡ false
    nothing z n q r = clear n q r (rw z (bit_none (n - (64 * i + j + 1))))

-- the pages of the first words, counted word by word
sum_part : (ws : List ℕ) (i : ℕ) → Words ws → i ≤ length ws → sum_by ones (take i ws) ≡ tally (holds ws) (64 * i)
sum_part ws zero h l = sym (tally_none (holds ws))
sum_part ws (suc i) h l =
    let e = sum_by_more ones ws i 0 (omega arith) in
    let b = sum_part ws i h (omega arith) in
    rw (← add-one) (omega (arith, e, b, tally_word ws i (h i)))

pub sum_ones : (ws : List ℕ) → length ws ≡ 16 → Words ws → sum (map ones ws) ≡ tally (holds ws) 1024
sum_ones ws l h =
    let b = sum_part ws 16 h (omega arith) in
    sum-map ones ws ∙ rw (take_all 16 ws (omega arith)) at b

-- the first page after page 64 * i + j, where v has the bits of word i from bit j on
module _
    (ws : List ℕ) (i j v : ℕ) (word : get_or ws i 0 < 2 ^ 64) (e : v ≡ get_or ws i 0 / 2 ^ j) (inside : j < 64) (some : 0 < v) (low : i < 16)
  where
    pub first_after : FirstAfter (holds ws) (64 * i + j) (64 * i + j + 1 + count_trailing_zeros 64 v)
    first_after =
        let h = hit_inside ws i j v word e inside some in
        record { above = omega arith; most = omega (arith, h); between = before ws i j v word e inside some; hit = hit ws i j v word e inside some }

-- the pages of words that are zero
pub empty_words : (ws : List ℕ) (a b : ℕ) → ((k : ℕ) → a ≤ k → k < b → get_or ws k 0 ≡ 0) → (n : ℕ) → 64 * a < n → n ≤ 64 * b → holds ws n ≡ false
empty_words ws a b z n p q = holds_at ws n (omega arith) ∙ rw (z ((n - 1) / 64) (omega arith) (omega arith)) (bit_none ((n - 1) % 64))

-- no page where a set can have none
pub holds_nowhere : (ws : List ℕ) (n : ℕ) → length ws ≡ 16 → (n ≡ 0) ⊎ (1024 < n) → holds ws n ≡ false
holds_nowhere ws n l (inl e) = rw e (holds_zero ws)
holds_nowhere ws n l (inr h) = holds_past ws n l h
