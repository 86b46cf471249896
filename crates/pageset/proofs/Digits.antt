-- The bits of a word. Assumes nothing.
use Rattle.std.proofs.Common.{◌≡◌, ℕ, zero, suc, ◌+◌, ◌-◌, ◌/◌, ◌%◌, ◌^◌, ◌<◌, ◌≤◌, Bool, true, false, cond, not, ◌&&◌, ◌||◌, eqb, ◌≢◌, sym, refl, add-one, one-add, ap, ◌*◌, min, max, ⊎_elim, ◌∙◌, w64, arith}
use lib.Bits.{bit_or, bit_xor, bit_and}
use lib.Count.{ones, count_trailing_zeros, ones_step}
use Rattle.std.proofs.lemmas.Nat.{shr-shr, xor_shr, xor_mod, xor_lt, and_shr, and_mod, shr_below, and_le_l}
use Rattle.std.proofs.lemmas.Nat.Bits.{bit_at_and, bit_at_or, bit_at_not, bit_at_set_same, bit_at_set_other, bit_at_clear_same, bit_at_clear_other, bit_at-zero, bit_at_above}
use Rattle.std.proofs.lemmas.Bool.{cases_eq}
use Rattle.std.proofs.lemmas.Bool.Decides.{nat_tests}
use Rattle.pageset.specs.Sets.{bit, used}

-- bit j of a word without its first k bits
pub bit_shr : (w k j : ℕ) → bit (w / 2 ^ k) j ≡ bit w (k + j)
unfolding bit
bit_shr w k j = rw (shr-shr w k j) refl

pub bit_suc : (w k : ℕ) → bit w (suc k) ≡ bit (w / 2) k
bit_suc w k = sym (rw one-add at (bit_shr w 1 k))

pub bit_first : (w : ℕ) → bit w 0 ≡ eqb (w % 2) 1
unfolding bit
bit_first w = let e : w / 1 ≡ w = omega arith in rw e refl

pub bit_none : (k : ℕ) → bit 0 k ≡ false
unfolding bit
bit_none k = ap (λ b. eqb b 1) (bit_at-zero k)

-- no bit past the width
pub bit_high : (d w k : ℕ) → w < 2 ^ d → d ≤ k → bit w k ≡ false
unfolding bit
bit_high d w k h l = ap (λ b. eqb b 1) (bit_at_above w d k h l)

half : (d w : ℕ) → w < 2 ^ suc d → w / 2 < 2 ^ d
half d w h = shr_below w d 1 (rw add-one h)

-- how many of the bits below d pass
unfoldable pub count : (ℕ → Bool) → ℕ → ℕ
count q zero = 0
count q (suc d) = count q d + cond (q d) 1 0

count_front : (q : ℕ → Bool) (d : ℕ) → count q (suc d) ≡ cond (q 0) 1 0 + count (λ k. q (suc k)) d
unfolding count
count_front q zero = omega arith
count_front q (suc d) = let i = count_front q d in omega (arith, i)

count_same : (p q : ℕ → Bool) (d : ℕ) → ((k : ℕ) → p k ≡ q k) → count p d ≡ count q d
unfolding count
count_same p q zero h = refl
count_same p q (suc d) h = rw (count_same p q d h, h d) refl

first_bit : (w : ℕ) → cond (eqb (w % 2) 1) 1 0 ≡ w % 2
first_bit w = grind (arith, nat_tests)

none_set : ones 0 ≡ 0
unfolding ones
none_set = refl

-- the bits that are set, counted
pub ones_count : (d w : ℕ) → w < 2 ^ d → ones w ≡ count (bit w) d
unfolding count
ones_count zero w h = let e : w ≡ 0 = omega arith in rw e none_set
ones_count (suc d) w h =
    let i = ones_count d (w / 2) (half d w h) in
    let s = ones_step w in
    let f = count_front (bit w) d in
    let g = count_same (λ k. bit w (suc k)) (bit (w / 2)) d (bit_suc w) in
    let b = rw (bit_first w, first_bit w) at f in
    omega (arith, i, s, b, g)

-- the bits of either word
either : (x y : ℕ) → x < 2 → y < 2 → eqb (max x y) 1 ≡ (eqb x 1 || eqb y 1)
either zero zero p q = refl
either zero (suc zero) p q = refl
either (suc zero) zero p q = refl
either (suc zero) (suc zero) p q = refl
either (suc (suc x)) y p q = absurd (omega arith)
either zero (suc (suc y)) p q = absurd (omega arith)
either (suc zero) (suc (suc y)) p q = absurd (omega arith)

pub bit_or_lem : (v w k : ℕ) → bit (bit_or v w) k ≡ (bit v k || bit w k)
unfolding bit
bit_or_lem v w k = rw (bit_at_or v w k) (either (v / 2 ^ k % 2) (w / 2 ^ k % 2) (omega arith) (omega arith))

-- bit j put in and taken out, as the program does it
abbrev pub with_bit : ℕ → ℕ → ℕ
with_bit w j = bit_or w (1 * 2 ^ j % 2 ^ 64)

abbrev pub without_bit : ℕ → ℕ → ℕ
without_bit w j = bit_and w (18446744073709551615 - 1 * 2 ^ j % 2 ^ 64)

pub with_same : (w j : ℕ) → j < 64 → bit (with_bit w j) j ≡ true
unfolding bit
with_same w j h = ap (λ b. eqb b 1) (bit_at_set_same w64 w j h)

pub with_other : (w j k : ℕ) → j < 64 → k ≢ j → bit (with_bit w j) k ≡ bit w k
unfolding bit
with_other w j k h d = ap (λ b. eqb b 1) (bit_at_set_other w64 w j h k d)

pub without_same : (w j : ℕ) → j < 64 → bit (without_bit w j) j ≡ false
unfolding bit
without_same w j h = ap (λ b. eqb b 1) (bit_at_clear_same w64 w j h)

pub without_other : (w j k : ℕ) → j < 64 → k < 64 → k ≢ j → bit (without_bit w j) k ≡ bit w k
unfolding bit
without_other w j k h l d = ap (λ b. eqb b 1) (bit_at_clear_other w64 w j h k l d)

-- the bits below the lowest that is set
pub tz_low : (d w k : ℕ) → k < count_trailing_zeros d w → bit w k ≡ false
unfolding count_trailing_zeros
tz_low zero w k h = absurd (omega arith)
tz_low (suc d) w k h = ⊎_elim
    (λ (e : w % 2 ≡ 0). low (tz_low d (w / 2)) k e (rw e at h))
    (λ (n : w % 2 ≢ 0). let e : w % 2 ≡ 1 = omega arith in absurd (omega (arith, rw e at h)))
    (cases_eq (w % 2) 0)
  where
    low : ((k : ℕ) → k < count_trailing_zeros d (w / 2) → bit (w / 2) k ≡ false) → (k : ℕ) → w % 2 ≡ 0 → k < suc (count_trailing_zeros d (w / 2)) → bit w k ≡ false
    low back zero e h = bit_first w ∙ rw e refl
    low back (suc k) e h = bit_suc w k ∙ back k (omega arith)

-- and the lowest that is set
pub tz_hit : (d w : ℕ) → 0 < w → w < 2 ^ d → bit w (count_trailing_zeros d w) ≡ true
unfolding count_trailing_zeros
tz_hit zero w p h = absurd (omega arith)
tz_hit (suc d) w p h = ⊎_elim
    (λ (e : w % 2 ≡ 0). rw e (bit_suc w (count_trailing_zeros d (w / 2)) ∙ tz_hit d (w / 2) (omega arith) (half d w h)))
    (λ (n : w % 2 ≢ 0). let e : w % 2 ≡ 1 = omega arith in rw e (bit_first w ∙ rw e refl))
    (cases_eq (w % 2) 0)

-- the bits of one word that are not in another
one_less : (x y : ℕ) → x < 2 → y < 2 → eqb (min x (1 - y)) 1 ≡ (eqb x 1 && not (eqb y 1))
one_less zero zero p q = refl
one_less zero (suc zero) p q = refl
one_less (suc zero) zero p q = refl
one_less (suc zero) (suc zero) p q = refl
one_less (suc (suc x)) y p q = absurd (omega arith)
one_less zero (suc (suc y)) p q = absurd (omega arith)
one_less (suc zero) (suc (suc y)) p q = absurd (omega arith)

-- v without the bits of w, as the program writes it
abbrev pub less : ℕ → ℕ → ℕ
less v w = bit_and v (18446744073709551615 - w)

pub bit_minus : (v w k : ℕ) → w < 2 ^ 64 → k < 64 → bit (less v w) k ≡ (bit v k && not (bit w k))
unfolding bit
bit_minus v w k h l =
    rw (bit_at_and v (18446744073709551615 - w) k, bit_at_not w64 w k h l)
    (one_less (v / 2 ^ k % 2) (w / 2 ^ k % 2) (omega arith) (omega arith))

pub minus_lt : (v w : ℕ) → v < 2 ^ 64 → w < 2 ^ 64 → less v w < 2 ^ 64
minus_lt v w h l = omega (arith, and_le_l v (18446744073709551615 - w))

-- the same for the bits of v without those of both
one_apart : (x y : ℕ) → x < 2 → y < 2 → eqb (bit_xor x (bit_and x y)) 1 ≡ (eqb x 1 && not (eqb y 1))
one_apart zero zero p q = refl
one_apart zero (suc zero) p q = refl
one_apart (suc zero) zero p q = refl
one_apart (suc zero) (suc zero) p q = refl
one_apart (suc (suc x)) y p q = absurd (omega arith)
one_apart zero (suc (suc y)) p q = absurd (omega arith)
one_apart (suc zero) (suc (suc y)) p q = absurd (omega arith)

pub bit_less : (v w k : ℕ) → bit (bit_xor v (bit_and v w)) k ≡ (bit v k && not (bit w k))
unfolding bit
bit_less v w k =
    rw (xor_shr v (bit_and v w) k, and_shr v w k, xor_mod (v / 2 ^ k) (bit_and (v / 2 ^ k) (w / 2 ^ k)) 1, and_mod (v / 2 ^ k) (w / 2 ^ k) 1)
    (one_apart (v / 2 ^ k % 2) (w / 2 ^ k % 2) (omega arith) (omega arith))

pub less_lt : (v w : ℕ) → v < 2 ^ 64 → bit_xor v (bit_and v w) < 2 ^ 64
less_lt v w h = xor_lt 64 v (bit_and v w) h (omega (arith, and_le_l v w))

-- a word that has a page
pub used_true : (w : ℕ) → used w ≡ true → 0 < w
used_true w h = grind (arith, nat_tests)

pub used_false : (w : ℕ) → used w ≡ false → w ≡ 0
used_false w h = grind (arith, nat_tests)
