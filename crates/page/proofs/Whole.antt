-- A reader ends as the page's first fault says, and its parts are the page. Assumes nothing.
use Rattle.std.proofs.Common.{◌≡◌, ℕ, zero, suc, ◌+◌, ◌-◌, ◌*◌, ◌≤◌, Bool, true, false, cond, eqb, leb, List, ◌++◌, length, drop, Ok, Err, sym, refl, ap, ◌∙◌, subst, append-nil, arith, take-append-drop}
use Rattle.std.specs.Result.{result_err}
use Rattle.std.proofs.lemmas.List.{drop-drop}
use Rattle.std.proofs.lemmas.Bool.{cond_both, leb-true}
use Rattle.fault.specs.declared.kinds.Cause.TheVariants.{HeadTooLarge, WrongLength}
use Rattle.fault.specs.declared.kinds.Fault.{Fault}
use Rattle.fault.specs.Faults.{nowhere, on_cell, fault}
use Rattle.fault.specs.Refusals.{Checked, ◌>>=◌, ◌>>◌, ◌else◌}
use Rattle.page.specs.Form.{head_of, type_at, object_at, objects_fault, unused_fault, first_fault, examined}
use Rattle.page.specs.Parts.{Remaining, only, cell_bytes, last_part, object_part, parts_from, parts_of, reader_of, all_bytes, Faithful}
use Rattle.page.specs.declared.descriptor.Descriptor.{Descriptor}

-- what is left is fault-free up to the fault f, and then its bytes are ys
unfoldable Ends : Remaining → Checked (Unit {0}) → List ℕ → Type 0
Ends l f ys = (l.fault ≡ result_err f) × (f ≡ Ok tt → all_bytes l.parts ≡ ys)

last_ends : (bs : List ℕ) (k i : ℕ) (f : Checked (Unit {0})) → k ≡ i → Ends (last_part bs k f) f (drop (8 * i) bs)
unfolding Ends
last_ends bs k i (Ok x) e = (refl, λ _. append-nil _ ∙ ap (λ j. drop (8 * j) bs) e)
last_ends bs k i (Err x) e = (refl, λ h. absurd cc)

object_ends : (bs : List ℕ) (k : ℕ) (r : Checked ℕ) (f : ℕ → Remaining) (g : ℕ → Checked (Unit {0})) (h : Checked (Unit {0})) → ((s : ℕ) → r ≡ Ok s → Ends (f s) (g s >> h) (drop (8 * (k + 1 + s)) bs)) → Ends (object_part bs k r f) ((r >>= g) >> h) (drop (8 * k) bs)
unfolding Ends
object_ends bs k (Ok s) f g h ends =
    let e = ends s refl in
    let a : 8 * k + 8 * (1 + s) ≡ 8 * (k + 1 + s) = omega arith in (
      e.0,
      λ ok.
          ap (λ l. cell_bytes bs k (1 + s) ++ l) (e.1 ok ∙ ap (λ m. drop m bs) (sym a) ∙ sym (drop-drop (8 * (1 + s)) (8 * k) bs))
          ∙ take-append-drop (8 * (1 + s)) (drop (8 * k) bs),
    )
object_ends bs k (Err x) f g h ends = (refl, λ ok. absurd cc)

-- an object with no fault lies within the used cells: over any tests
fits_by : (a b : Bool) (x y : Fault) (r : Checked (Unit {0})) (z s u k : ℕ) → (b ≡ true → k + z ≤ u) → ((a else x) >> ((b else y) >> (r >> Ok z))) ≡ Ok s → k + s ≤ u
fits_by false b x y r z s u k h e = absurd cc
fits_by true false x y r z s u k h e = absurd cc
fits_by true true x y (Ok t) z s u k h e = let w : z ≡ s = cc in omega (arith, h refl)
fits_by true true x y (Err f) z s u k h e = absurd cc

module _ (ts : List Descriptor) (p n : ℕ) (bs : List ℕ) where
  pub fits : (k s : ℕ) → object_at p n bs ts k ≡ Ok s → k + s ≤ head_of bs
  fits k s e = fits_by _ (leb (k + (type_at ts bs k).size) (head_of bs)) _ _ _ _ s (head_of bs) k (λ h. leb-true _ _ h) e

  from_ends : (k m s : ℕ) → k + m ≡ head_of bs + 1 → s ≤ m → Ends (parts_from ts p n bs (head_of bs) k m s) (objects_fault p n bs ts k m s >> unused_fault n bs (head_of bs + 1) (63 - head_of bs)) (drop (8 * (k + s)) bs)
  from_ends k zero s h l = last_ends bs (head_of bs + 1) (k + s) (unused_fault n bs (head_of bs + 1) (63 - head_of bs)) (omega arith)
  from_ends k (suc m) zero h l =
      let a : k + 0 ≡ k = omega arith in
      rw a (object_ends bs k (object_at p n bs ts k) (λ s. parts_from ts p n bs (head_of bs) (k + 1) m s) (λ s. objects_fault p n bs ts (k + 1) m s) (unused_fault n bs (head_of bs + 1) (63 - head_of bs)) (λ s is. from_ends (k + 1) m s (omega arith) (omega (arith, fits k s is))))
  from_ends k (suc m) (suc s) h l =
      let a : k + suc s ≡ k + 1 + s = omega arith in
      rw a (from_ends (k + 1) m s (omega arith) (omega arith))

  head_ends : (b : Bool) (x : Fault) (l : Remaining) (f : Checked (Unit {0})) (ys : List ℕ) → Ends l f ys → Ends (cond b l (only x)) ((b else x) >> f) ys
  unfolding Ends
  head_ends true x l f ys e = e
  head_ends false x l f ys e = (refl, λ ok. absurd cc)

  whole_ends : (b : Bool) (x : Fault) (l : Remaining) (f : Checked (Unit {0})) → Ends l f (drop 8 bs) → Faithful ((b else x) >> Ok l) ((b else x) >> f) bs
  unfolding Ends
  whole_ends true x l f e = e
  whole_ends false x l f e = refl

  pub faithful : Faithful (reader_of ts p n bs) (examined p n bs ts) bs
  faithful =
      whole_ends (eqb (length bs) 512) (fault WrongLength 3 nowhere) (parts_of ts p n bs) (first_fault p n bs ts)
      (head_ends (leb (head_of bs) 63) (fault HeadTooLarge 3 (on_cell n 0)) (parts_from ts p n bs (head_of bs) 1 (head_of bs) 0) (objects_fault p n bs ts 1 (head_of bs) 0 >> unused_fault n bs (head_of bs + 1) (63 - head_of bs)) (drop 8 bs) (from_ends 1 (head_of bs) 0 (omega arith) (omega arith)))

last_few : (bs : List ℕ) (k : ℕ) (f : Checked (Unit {0})) → length (last_part bs k f).parts ≤ 1
last_few bs k (Ok x) = omega arith
last_few bs k (Err e) = omega arith

object_few : (bs : List ℕ) (k m : ℕ) (r : Checked ℕ) (f : ℕ → Remaining) → ((s : ℕ) → length (f s).parts ≤ m) → length (object_part bs k r f).parts ≤ m + 1
object_few bs k m (Ok s) f h = omega (arith, h s)
object_few bs k m (Err e) f h = omega arith

from_few : (ts : List Descriptor) (p n : ℕ) (bs : List ℕ) (u k m s : ℕ) → length (parts_from ts p n bs u k m s).parts ≤ m + 1
from_few ts p n bs u k zero s = last_few bs (u + 1) (unused_fault n bs (u + 1) (63 - u))
from_few ts p n bs u k (suc m) zero =
    let h : length (object_part bs k (object_at p n bs ts k) (λ s. parts_from ts p n bs u (k + 1) m s)).parts ≤ m + 1 + 1 = object_few bs k (m + 1) (object_at p n bs ts k) (λ s. parts_from ts p n bs u (k + 1) m s) (λ s. from_few ts p n bs u (k + 1) m s) in
    omega arith
from_few ts p n bs u k (suc m) (suc s) = let h = from_few ts p n bs u (k + 1) m s in omega arith

-- a page has at most 64 parts
pub few_parts : (ts : List Descriptor) (p n : ℕ) (bs : List ℕ) → length (parts_of ts p n bs).parts ≤ 64
few_parts ts p n bs =
    let P : Remaining → Type 0 = λ l. length l.parts ≤ 64 in
    cond_both (leb (head_of bs) 63) _ _ P
    (λ e. omega (arith, leb-true (head_of bs) 63 e, from_few ts p n bs (head_of bs) 1 (head_of bs) 0))
    (λ _. omega arith)

-- whatever is equal to it
pub faithful_as : (ts : List Descriptor) (p n : ℕ) (bs : List ℕ) (l : Checked Remaining) → l ≡ reader_of ts p n bs → Faithful l (examined p n bs ts) bs
faithful_as ts p n bs l e = let P : Checked Remaining → Type 0 = λ x. Faithful x (examined p n bs ts) bs in subst P (sym e) (faithful ts p n bs)
