-- The pages on which cursors stand. Assumes nothing.
use Rattle.std.proofs.Common.{◌≡◌, ℕ, zero, suc, ◌+◌, ◌<◌, ◌≤◌, Bool, true, false, ◌&&◌, ◌||◌, eqb, ◌⊎◌, List, [], ◌∷◌, length, get_or, take, Some, None, Option, sym, refl, ap, ◌∙◌, inl, inr, ⊎_elim, add-one, arith}
use Rattle.std.proofs.lemmas.Bool.{cases_eq, cases_lt, or_right}
use Rattle.std.proofs.lemmas.Bool.Decides.{nat_tests}
use Rattle.pageset.specs.Sets.{holds}
use Rattle.pageset.proofs.Members.{holds_zero}
use Rattle.frame.specs.Links.{is_page}
use Rattle.frame.proofs.Walks.{or_nothing}
use Rattle.page.specs.declared.link.Position.{Position}
use Rattle.graph.specs.Graphs.{on_cursor}
use Rattle.service.specs.Inner.{on}

or_none : (b t : Bool) → t ≡ false → b ≡ (b || t)
or_none b t e = or_nothing b ∙ ap (λ s. b || s) (sym e)

here : (m n : ℕ) → m ≡ n → 0 < m → m ≤ 1024 → (eqb m n && is_page m) ≡ true
here m n e l h = grind (arith, nat_tests)

elsewhere : (m n : ℕ) → (m ≡ n → ⊥) ⊎ ((m ≡ 0) ⊎ (1024 < n)) → (eqb m n && is_page m) ≡ false
elsewhere m n (inl p) = grind (arith, nat_tests)
elsewhere m n (inr (inl e)) = grind (arith, nat_tests)
elsewhere m n (inr (inr e)) = grind (arith, nat_tests)

-- page n is put into the set v, which is then w
pub put_page : (v w : List ℕ) (n m : ℕ) → n ≤ 1024 → (0 < n → n ≤ 1024 → holds w n ≡ true) → ((k : ℕ) → (k ≡ n → ⊥) → holds w k ≡ holds v k) → holds w m ≡ (holds v m || (eqb m n && is_page m))
put_page v w n m h added others =
    ⊎_elim
    (λ (e : m ≡ n). ⊎_elim
    (λ (l : 0 < m). ap (holds w) e ∙ added (omega arith) h ∙ sym (or_right (holds v m) _ (here m n e l (omega arith))))
    (λ (l : m ≤ 0).
    let z : m ≡ 0 = omega arith in
    ap (holds w) z ∙ holds_zero w ∙ sym (ap (holds v) z ∙ holds_zero v) ∙ or_none (holds v m) _ (elsewhere m n (inr (inl z))))
    (cases_lt 0 m))
    (λ (p : m ≡ n → ⊥). others m p ∙ or_none (holds v m) _ (elsewhere m n (inl p)))
    (cases_eq m n)

on_is : (o p : Option Position) (m : ℕ) → o ≡ p → on o m ≡ on p m
on_is o p m e = ap (λ x. on x m) e

pub on_some : (o : Option Position) (at : Position) (m : ℕ) (b : Bool) → o ≡ Some at → (b || (eqb m at.page && is_page m)) ≡ (b || (on o m && is_page m))
on_some o at m b e = ap (λ t. b || (t && is_page m)) (sym (on_is o (Some at) m e))

or_assoc : (a b c : Bool) → (a || (b || c)) ≡ ((a || b) || c)
or_assoc true b c = refl
or_assoc false b c = refl

one_on : (o : Option Position) (m : ℕ) → on_cursor (o ∷ []) m ≡ on o m
one_on None m = refl
one_on (Some at) m = sym (or_nothing (eqb m at.page))

on_suc : (cs : List (Option Position)) (k m : ℕ) → k < length cs → on_cursor (take (suc k) cs) m ≡ (on_cursor (take k cs) m || on (get_or cs k None) m)
on_suc [] k m h = absurd (omega arith)
on_suc (c ∷ cs) zero m h = one_on c m
on_suc (None ∷ cs) (suc k) m h = on_suc cs k m (omega arith)
on_suc (Some at ∷ cs) (suc k) m h = ap (λ b. eqb m at.page || b) (on_suc cs k m (omega arith)) ∙ or_assoc (eqb m at.page) _ _

both : (a t p : Bool) → ((a && p) || (t && p)) ≡ ((a || t) && p)
both true true true = refl
both true true false = refl
both true false true = refl
both true false false = refl
both false t p = refl

-- one cursor more
pub on_more : (v w : List ℕ) (m : ℕ) (cs : List (Option Position)) (k : ℕ) → k < length cs → holds v m ≡ (on_cursor (take k cs) m && is_page m) → holds w m ≡ (holds v m || (on (get_or cs k None) m && is_page m)) → holds w m ≡ (on_cursor (take (k + 1) cs) m && is_page m)
on_more v w m cs k h was new =
    let t : Bool = on (get_or cs k None) m in
    new ∙ ap (λ b. b || (t && is_page m)) was ∙ both (on_cursor (take k cs) m) t (is_page m) ∙ ap (λ b. b && is_page m) (sym (ap (λ j. on_cursor (take j cs) m) (add-one k) ∙ on_suc cs k m h))
