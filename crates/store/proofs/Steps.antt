-- What the rules of reading and writing say, case by case. Assumes nothing.
use Rattle.std.proofs.Common.{◌≡◌, ℕ, zero, suc, ◌-◌, ◌*◌, ◌<◌, ◌≤◌, Bool, true, false, cond, ◌&&◌, eqb, ltb, leb, ◌⊎◌, List, length, get_or, Ok, Err, sym, refl, ap, ◌∙◌, inl, inr, ⊎_elim, arith}
use Rattle.std.proofs.lemmas.List.{get_or_past}
use Rattle.std.proofs.lemmas.Bool.{eq-eqb, ne_eqb, eqb-true, lt-ltb, le-leb, ltb-true, leb-true, and_parts, cases_Bool, cases_eq, cases_lt, true≢false}
use Rattle.fault.specs.declared.kinds.Cause.TheVariants.{PageClosed}
use Rattle.fault.specs.declared.kinds.Fault.{Fault}
use Rattle.fault.specs.Faults.{on_page, fault}
use Rattle.fault.specs.Refusals.{Checked, ◌>>◌, ◌else◌}
use Rattle.store.specs.Pages.{Page, no_page, page_at, is_page}
use Rattle.store.specs.Rules.{readable, read_answer, held_by, read_buffer, open_at, write_answer, written, write_pages, start_answer}

-- which numbers are pages

pub is_page_lem : (ps : List Page) (n : ℕ) → 0 < n → n ≤ length ps → is_page ps n ≡ true
is_page_lem ps n z h = simp (lt-ltb 0 n z, le-leb n (length ps) h)

pub page_bounds : (ps : List Page) (n : ℕ) → is_page ps n ≡ true → (0 < n) × (n ≤ length ps)
page_bounds ps n h =
    let e = and_parts (ltb 0 n) (leb n (length ps)) h in
    (ltb-true 0 n e.0, leb-true n (length ps) e.1)

-- what stands where no page is
pub page_outside : (ps : List Page) (n : ℕ) → is_page ps n ≡ false → page_at ps n ≡ no_page
page_outside ps zero h = refl
page_outside ps (suc i) h =
    ⊎_elim
    (λ (l : i < length ps). let z : 0 < suc i = omega arith in let k : suc i ≤ length ps = omega arith in absurd (true≢false (sym (is_page_lem ps (suc i) z k) ∙ h)))
    (λ (l : length ps ≤ i). get_or_past ps i no_page l)
    (cases_lt i (length ps))

pub open_outside : (ps : List Page) (n : ℕ) → is_page ps n ≡ false → open_at ps n ≡ false
open_outside ps n h = ap (λ (p : Page). p.writable) (page_outside ps n h)

-- a page that may be written is there
pub open_page : (ps : List Page) (n : ℕ) → open_at ps n ≡ true → is_page ps n ≡ true
open_page ps n o =
    ⊎_elim (λ (h : is_page ps n ≡ true). h) (λ (h : is_page ps n ≡ false). absurd (true≢false (sym o ∙ open_outside ps n h))) (cases_Bool (is_page ps n))

-- a page, by its place in the list
pub page_at_lem : (ps : List Page) (n : ℕ) → is_page ps n ≡ true → page_at ps n ≡ get_or ps (n - 1) no_page
page_at_lem ps zero h = absurd (true≢false (sym h))
page_at_lem ps (suc i) h = let e : i ≡ suc i - 1 = omega arith in ap (λ k. get_or ps k no_page) e

module _ (layer : ℕ) (ps : List Page) (n : ℕ) where
  pub read_inside : (len : ℕ) → len ≡ 512 → is_page ps n ≡ true → read_answer layer ps n len ≡ readable (page_at ps n).content n
  read_inside len h o = simp (eq-eqb len 512 h, o)

  pub write_inside : (len : ℕ) → len ≡ 512 → is_page ps n ≡ true → write_answer layer ps n len ≡ (open_at ps n else fault PageClosed layer (on_page n))
  write_inside len h o = simp (eq-eqb len 512 h, o)

  pub write_closed : (len : ℕ) → len ≡ 512 → is_page ps n ≡ true → open_at ps n ≡ false → write_answer layer ps n len ≡ Err (fault PageClosed layer (on_page n))
  write_closed len h o c = write_inside len h o ∙ ap (λ b. b else fault PageClosed layer (on_page n)) c

  pub write_open : (len : ℕ) → len ≡ 512 → open_at ps n ≡ true → write_answer layer ps n len ≡ Ok tt
  write_open len h c = write_inside len h (open_page ps n c) ∙ ap (λ b. b else fault PageClosed layer (on_page n)) c

module _ (ps : List Page) (n : ℕ) (bs : List ℕ) where
  pub held_short : (length bs ≡ 512 → ⊥) → read_buffer ps n bs ≡ bs
  held_short h = simp (ne_eqb (length bs) 512 h)

  pub held_inside : length bs ≡ 512 → read_buffer ps n bs ≡ held_by (page_at ps n).content bs
  held_inside h = simp (eq-eqb (length bs) 512 h)

  pub held_outside : is_page ps n ≡ false → read_buffer ps n bs ≡ bs
  held_outside o =
      ap (λ (p : Page). cond (eqb (length bs) 512) (held_by p.content bs) bs) (page_outside ps n o)
      ∙ elim (eqb (length bs) 512) as (λ b. cond b bs bs ≡ bs) [ true ↦ refl | false ↦ refl ]

  pub kept_short : (length bs ≡ 512 → ⊥) → write_pages ps n bs ≡ ps
  kept_short h = simp (ne_eqb (length bs) 512 h)

  pub kept_closed : open_at ps n ≡ false → write_pages ps n bs ≡ ps
  kept_closed c =
      ap (λ b. cond (eqb (length bs) 512 && b) (written ps n bs) ps) c
      ∙ elim (eqb (length bs) 512) as (λ b. cond (b && false) (written ps n bs) ps ≡ ps) [ true ↦ refl | false ↦ refl ]

  pub kept_outside : is_page ps n ≡ false → write_pages ps n bs ≡ ps
  kept_outside o = kept_closed (open_outside ps n o)

  pub kept_open : length bs ≡ 512 → open_at ps n ≡ true → write_pages ps n bs ≡ written ps n bs
  kept_open h c = simp (eq-eqb (length bs) 512 h, c)

-- where a page begins

same_refusal : {A B : Type 0} (a b : Bool) (f g e : Fault) (x : A) (r : Checked B)
    → ◌>>◌ (a else f) (◌>>◌ (b else g) (Ok x)) ≡ Err e → ◌>>◌ (a else f) (◌>>◌ (b else g) r) ≡ Err e
same_refusal true true f g e x r h = absurd (let z : ◌≡◌ {A = ℕ} 0 1 = cc in omega arith)
same_refusal true false f g e x r h = cc
same_refusal false b f g e x r h = cc

both_tests : {A : Type 0} (a b : Bool) (f g : Fault) (x y : A) → ◌>>◌ (a else f) (◌>>◌ (b else g) (Ok x)) ≡ Ok y → (a ≡ true) × (b ≡ true) × (y ≡ x)
both_tests true true f g x y h = (refl, refl, (cc))
both_tests true false f g x y h = absurd (let z : ◌≡◌ {A = ℕ} 0 1 = cc in omega arith)
both_tests false b f g x y h = absurd (let z : ◌≡◌ {A = ℕ} 0 1 = cc in omega arith)

module _ (layer : ℕ) (ps : List Page) (n len : ℕ) where
  pub start_inside : len ≡ 512 → is_page ps n ≡ true → start_answer layer ps n len ≡ Ok ((n - 1) * 512)
  start_inside h o = simp (eq-eqb len 512 h, o)

  pub start_granted : (k : ℕ) → start_answer layer ps n len ≡ Ok k → (len ≡ 512) × (is_page ps n ≡ true) × (k ≡ (n - 1) * 512)
  start_granted k h = let t = both_tests (eqb len 512) (is_page ps n) _ _ _ k h in (eqb-true len 512 t.0, t.1, t.2)

  pub read_refused : (e : Fault) → start_answer layer ps n len ≡ Err e → read_answer layer ps n len ≡ Err e
  read_refused e h = same_refusal (eqb len 512) (is_page ps n) _ _ e _ _ h

  pub write_refused : (e : Fault) → start_answer layer ps n len ≡ Err e → write_answer layer ps n len ≡ Err e
  write_refused e h = same_refusal (eqb len 512) (is_page ps n) _ _ e _ _ h

module _ (layer : ℕ) (ps : List Page) (n : ℕ) (bs : List ℕ) where
  -- why no page begins there
  amiss : (e : Fault) → start_answer layer ps n (length bs) ≡ Err e → (length bs ≡ 512 → ⊥) ⊎ (is_page ps n ≡ false)
  amiss e h =
      ⊎_elim
      (λ (l : length bs ≡ 512).
      ⊎_elim
      (λ (o : is_page ps n ≡ true). let i = start_inside layer ps n (length bs) l o in absurd (let z : ◌≡◌ {A = ℕ} 0 1 = cc in omega arith))
      (λ (o : is_page ps n ≡ false). inr o)
      (cases_Bool (is_page ps n)))
      (λ (l : length bs ≡ 512 → ⊥). inl l)
      (cases_eq (length bs) 512)

  pub held_refused : (e : Fault) → start_answer layer ps n (length bs) ≡ Err e → read_buffer ps n bs ≡ bs
  held_refused e h = ⊎_elim (held_short ps n bs) (held_outside ps n bs) (amiss e h)

  pub kept_refused : (e : Fault) → start_answer layer ps n (length bs) ≡ Err e → write_pages ps n bs ≡ ps
  kept_refused e h = ⊎_elim (kept_short ps n bs) (kept_outside ps n bs) (amiss e h)
