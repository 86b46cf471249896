-- The pages that cells lead to, one cell after another. Assumes nothing.
use Rattle.std.proofs.Common.{◌≡◌, ℕ, ◌/◌, ◌<◌, ◌≤◌, Bool, true, false, ◌&&◌, ◌||◌, ◌⊎◌, List, length, sym, ap, ◌∙◌, inl, inr, ⊎_elim, arith}
use Rattle.std.proofs.lemmas.Bool.{cases_eq, cases_lt, or_right}
use Rattle.std.proofs.lemmas.Bool.Decides.{nat_tests}
use Rattle.page.specs.Walks.{leads}
use Rattle.pageset.specs.Sets.{holds}
use Rattle.pageset.proofs.Members.{holds_zero, holds_past}
use Rattle.frame.specs.Links.{is_page}
use Rattle.frame.proofs.Walks.{or_nothing}

or_none : (b t : Bool) → t ≡ false → b ≡ (b || t)
or_none b t e = or_nothing b ∙ ap (λ s. b || s) (sym e)

leads_there : (n x : ℕ) → n ≡ x / 64 → 0 < n → n ≤ 1024 → (leads n x && is_page n) ≡ true
leads_there n x e l h = grind (arith, nat_tests)

leads_elsewhere : (n x : ℕ) → (n ≡ x / 64 → ⊥) ⊎ (n ≡ 0) → (leads n x && is_page n) ≡ false
leads_elsewhere n x (inl p) = grind (arith, nat_tests)
leads_elsewhere n x (inr e) = grind (arith, nat_tests)

leads_past : (n x : ℕ) → 1024 < n → (leads n x && is_page n) ≡ false
leads_past n x h = grind (arith, nat_tests)

-- the page of x is put into the set v, which is then w
pub put_page : (v w : List ℕ) (x n : ℕ) → x / 64 ≤ 1024 → (0 < x / 64 → x / 64 ≤ 1024 → holds w (x / 64) ≡ true) → ((m : ℕ) → (m ≡ x / 64 → ⊥) → holds w m ≡ holds v m) → holds w n ≡ (holds v n || (leads n x && is_page n))
put_page v w x n h added others =
    ⊎_elim
    (λ (e : n ≡ x / 64). ⊎_elim
    (λ (l : 0 < n). ap (holds w) e ∙ added (omega arith) h ∙ sym (or_right (holds v n) _ (leads_there n x e l (omega arith))))
    (λ (l : n ≤ 0).
    let z : n ≡ 0 = omega arith in
    ap (holds w) z ∙ holds_zero w ∙ sym (ap (holds v) z ∙ holds_zero v) ∙ or_none (holds v n) _ (leads_elsewhere n x (inr z)))
    (cases_lt 0 n))
    (λ (p : n ≡ x / 64 → ⊥). others n p ∙ or_none (holds v n) _ (leads_elsewhere n x (inl p)))
    (cases_eq n (x / 64))

-- the same for any number, in sets of sixteen words
pub put_any : (v w : List ℕ) (x n : ℕ) → length v ≡ 16 → length w ≡ 16 → (0 < x / 64 → x / 64 ≤ 1024 → holds w (x / 64) ≡ true) → ((m : ℕ) → (m ≡ x / 64 → ⊥) → holds w m ≡ holds v m) → holds w n ≡ (holds v n || (leads n x && is_page n))
put_any v w x n vl wl added others =
    ⊎_elim
    (λ (e : n ≡ x / 64). ⊎_elim
    (λ (l : 0 < n). ⊎_elim
    (λ (h : 1024 < n). holds_past w n wl h ∙ sym (holds_past v n vl h) ∙ or_none (holds v n) _ (leads_past n x h))
    (λ (h : n ≤ 1024). ap (holds w) e ∙ added (omega arith) (omega arith) ∙ sym (or_right (holds v n) _ (leads_there n x e l h)))
    (cases_lt 1024 n))
    (λ (l : n ≤ 0).
    let z : n ≡ 0 = omega arith in
    ap (holds w) z ∙ holds_zero w ∙ sym (ap (holds v) z ∙ holds_zero v) ∙ or_none (holds v n) _ (leads_elsewhere n x (inr z)))
    (cases_lt 0 n))
    (λ (p : n ≡ x / 64 → ⊥). others n p ∙ or_none (holds v n) _ (leads_elsewhere n x (inl p)))
    (cases_eq n (x / 64))
