-- One step of each recursion of the page form. Assumes nothing.
use Rattle.std.proofs.Common.{◌≡◌, ℕ, zero, suc, ◌+◌, ◌-◌, ◌<◌, ◌≤◌, ◌≢◌, Bool, true, false, cond, not, ◌||◌, List, Option, Ok, Err, refl, arith, ⊎_elim}
use Rattle.std.proofs.lemmas.Bool.{cases_lt, eq-eqb}
use Rattle.std.proofs.lemmas.Bool.Decides.{nat_tests}
use Rattle.fault.specs.declared.kinds.Cause.{Cause}
use Rattle.fault.specs.declared.kinds.Cause.TheVariants.{BadLink, NotZero}
use Rattle.fault.specs.declared.kinds.Fault.{Fault}
use Rattle.fault.specs.Faults.{on_cell, on_field, fault}
use Rattle.fault.specs.Refusals.{Checked, ◌>>◌, ◌else◌}
use Rattle.page.specs.Cells.{cell_at}
use Rattle.page.specs.Descriptors.{linked}
use Rattle.page.specs.Form.{field_at, links_fault, unused_fault}
use Rattle.page.specs.Links.{is_link, named, link_of}
use Rattle.page.specs.declared.descriptor.Descriptor.{Descriptor}
use Rattle.page.specs.declared.link.Position.{Position}

pub else_then : {A : Type 0} (b : Bool) (e : Fault) (r : Checked A) → ((b else e) >> r) ≡ cond b r (Err e)
else_then true e r = refl
else_then false e r = refl

-- the m cells from k on are zero, or cell i is the first that is not
pub unused_none : (n : ℕ) (bs : List ℕ) (k m : ℕ) → ((i : ℕ) → k ≤ i → i < k + m → cell_at bs i ≡ 0) → unused_fault n bs k m ≡ Ok tt
unused_none n bs k zero zeros = refl
unused_none n bs k (suc m) zeros = rw (else_then, eq-eqb _ _ (zeros k (omega arith) (omega arith))) (unused_none n bs (k + 1) m (λ i a b. zeros i (omega arith) (omega arith)))

pub unused_some : (n : ℕ) (bs : List ℕ) (k m i : ℕ) → k ≤ i → i < k + m → cell_at bs i ≢ 0 → ((j : ℕ) → k ≤ j → j < i → cell_at bs j ≡ 0) → unused_fault n bs k m ≡ Err (fault NotZero 3 (on_cell n i))
unused_some n bs k zero i a b ne zeros = absurd (omega arith)
unused_some n bs k (suc m) i a b ne zeros =
    ⊎_elim
    (λ l. rw (else_then, eq-eqb _ _ (zeros k (omega arith) l)) (unused_some n bs (k + 1) m i (omega arith) (omega arith) ne (λ j x y. zeros j (omega arith) y)))
    (λ l.
    let e : k ≡ i = omega arith in
    rw (e, else_then) (grind (arith, nat_tests)))
    (cases_lt k i)

bad_by : (b : Bool) (l : Option Position) (c : Cause) → Err c ≡ cond b (Ok l) (Err BadLink) → (b ≡ false) × (c ≡ BadLink)
bad_by true l c e = absurd cc
bad_by false l c e = (refl, cc)

-- what is refused is no link, and is refused as a bad one
pub bad_link : (p x : ℕ) (c : Cause) → Err c ≡ link_of p x → (is_link p x ≡ false) × (c ≡ BadLink)
bad_link p x c e = bad_by (is_link p x) (named x) c e

module _ (p n : ℕ) (bs : List ℕ) where
  pub links_more : (d : Descriptor) (k f m : ℕ) → f < m → links_fault p n bs d k f (m - f) ≡ cond (not (linked d f) || is_link p (field_at bs k f)) (links_fault p n bs d k (f + 1) (m - (f + 1))) (Err (fault BadLink 3 (on_field n k f)))
  links_more d k f m h = let e : m - f ≡ suc (m - (f + 1)) = omega arith in rw e (else_then (not (linked d f) || is_link p (field_at bs k f)) (fault BadLink 3 (on_field n k f)) (links_fault p n bs d k (f + 1) (m - (f + 1))))
