-- Counting over the parts of a page. Assumes nothing.
use Rattle.std.proofs.Common.{◌≡◌, ℕ, zero, suc, ◌+◌, ◌-◌, ◌*◌, ◌/◌, ◌≤◌, Bool, true, false, cond, ◌&&◌, eqb, ltb, leb, List, [], ◌∷◌, length, drop, IfOk, IfSome, Some, None, Ok, Err, Option, sym, refl, ap, ◌∙◌, subst, arith, length-drop}
use Rattle.std.specs.List.{range_with_len}
use Rattle.std.proofs.lemmas.List.FromFn.{length-range_with_len}
use Rattle.std.proofs.lemmas.List.Sums.{count_by-le-length}
use Rattle.std.proofs.lemmas.Bool.{eqb-true, leb-true}
use Rattle.fault.specs.declared.kinds.Fault.{Fault}
use Rattle.fault.specs.declared.kinds.Cause.TheVariants.{HeadTooLarge, WrongLength}
use Rattle.fault.specs.Faults.{nowhere, on_cell, fault}
use Rattle.fault.specs.Refusals.{Checked, ◌>>=◌, ◌>>◌, ◌else◌}
use Rattle.page.specs.Descriptors.{Good, linked}
use Rattle.page.specs.Form.{head_of, object_at, unused_fault, examined}
use Rattle.page.specs.Parts.{Part, Remaining, only, last_part, object_part, parts_from, parts_of, reader_of, first_of, later_of, Faithful}
use Rattle.page.specs.declared.descriptor.Descriptor.{Descriptor}
use Rattle.page.proofs.Whole.{faithful, few_parts}
use Rattle.inspection.specs.Surveys.{counted, tally, empty, unless, surveyed, verdict, field_of, links_by_type}
use Rattle.inspection.specs.declared.survey.Survey.{Survey}

pub few_links : (o : Option Descriptor) (bs : List ℕ) → IfSome o Good → links_by_type o bs ≤ 62
few_links None bs good = omega arith
few_links (Some d) bs good =
    omega (arith, good, count_by-le-length (λ f. linked d f && ltb 0 (field_of bs f)) (range_with_len 0 d.size), length-range_with_len 0 d.size)

-- what a part that comes does to the counts
pub one_more : (ts : List Descriptor) (s : Survey) (xs : List Part) (o : Option Fault) (x : Part) → Some (Ok x) ≡ first_of xs o → (tally ts s xs ≡ tally ts (counted ts s x) (later_of xs)) × (length (later_of xs) + 1 ≡ length xs)
one_more ts s [] None x e = absurd cc
one_more ts s [] (Some f) x e = absurd cc
one_more ts s (y ∷ ys) o x e = let z : x ≡ y = cc in (ap (λ w. tally ts (counted ts s w) ys) (sym z), omega arith)

-- a fault, or the end
pub at_fault : (ts : List Descriptor) (s : Survey) (xs : List Part) (o : Option Fault) (x : Fault) → Some (Err x) ≡ first_of xs o → unless o (tally ts s xs) ≡ Err x
at_fault ts s [] None x e = absurd cc
at_fault ts s [] (Some f) x e = let z : x ≡ f = cc in ap Err (sym z)
at_fault ts s (y ∷ ys) o x e = absurd cc

pub at_end : (ts : List Descriptor) (s : Survey) (xs : List Part) (o : Option Fault) → None ≡ first_of xs o → unless o (tally ts s xs) ≡ Ok s
at_end ts s [] None e = refl
at_end ts s [] (Some f) e = absurd cc
at_end ts s (y ∷ ys) o e = absurd cc

-- a survey is refused as the page's first fault says
judge : (ts : List Descriptor) (bs : List ℕ) (l : Checked Remaining) (f : Checked (Unit {0})) → Faithful l f bs → verdict (l >>= (λ l. unless l.fault (tally ts empty l.parts))) ≡ f
judge ts bs (Err e) f h = sym h
judge ts bs (Ok l) (Ok tt) h = ap (λ o. verdict (unless o (tally ts empty l.parts))) h.0
judge ts bs (Ok l) (Err e) h = ap (λ o. verdict (unless o (tally ts empty l.parts))) h.0

pub verdict_is : (ts : List Descriptor) (p n : ℕ) (bs : List ℕ) → verdict (surveyed ts p n bs) ≡ examined p n bs ts
verdict_is ts p n bs = judge ts bs (reader_of ts p n bs) (examined p n bs ts) (faithful ts p n bs)

-- the free cells are those of the last part
last_free : (ts : List Descriptor) (bs : List ℕ) (k : ℕ) (s : Survey) (f : Checked (Unit {0})) → (last_part bs k f).fault ≡ None → (tally ts s (last_part bs k f).parts).free ≡ length (drop (8 * k) bs) / 8
last_free ts bs k s (Ok x) e = refl
last_free ts bs k s (Err x) e = absurd cc

object_free : (ts : List Descriptor) (bs : List ℕ) (k v : ℕ) (s : Survey) (r : Checked ℕ) (f : ℕ → Remaining) → ((t : Survey) (m : ℕ) → (f m).fault ≡ None → (tally ts t (f m).parts).free ≡ v) → (object_part bs k r f).fault ≡ None → (tally ts s (object_part bs k r f).parts).free ≡ v
object_free ts bs k v s (Ok m) f h e = h _ m e
object_free ts bs k v s (Err x) f h e = absurd cc

module _ (ts : List Descriptor) (p n : ℕ) (bs : List ℕ) (u : ℕ) where
  from_free : (k m s : ℕ) (t : Survey) → (parts_from ts p n bs u k m s).fault ≡ None → (tally ts t (parts_from ts p n bs u k m s).parts).free ≡ length (drop (8 * (u + 1)) bs) / 8
  from_free k zero s t e = last_free ts bs (u + 1) t (unused_fault n bs (u + 1) (63 - u)) e
  from_free k (suc m) zero t e = object_free ts bs k _ t (object_at p n bs ts k) (λ s. parts_from ts p n bs u (k + 1) m s) (λ t s. from_free (k + 1) m s t) e
  from_free k (suc m) (suc s) t e = from_free (k + 1) m s t e

unless_free : (o : Option Fault) (t : Survey) (v : ℕ) → (o ≡ None → t.free ≡ v) → IfOk (unless o t) (λ s. s.free ≡ v)
unless_free None t v h = h refl
unless_free (Some e) t v h = tt

free_by : (ts : List Descriptor) (b c : Bool) (x y : Fault) (l : Remaining) (v : ℕ) → (b ≡ true → c ≡ true → l.fault ≡ None → (tally ts empty l.parts).free ≡ v) → IfOk (((b else x) >> Ok (cond c l (only y))) >>= (λ l. unless l.fault (tally ts empty l.parts))) (λ s. s.free ≡ v)
free_by ts false c x y l v h = tt
free_by ts true false x y l v h = tt
free_by ts true true x y l v h = unless_free l.fault (tally ts empty l.parts) v (h refl refl)

pub free_is : (ts : List Descriptor) (p n : ℕ) (bs : List ℕ) → IfOk (surveyed ts p n bs) (λ s. s.free ≡ 63 - head_of bs)
free_is ts p n bs =
    free_by ts (eqb (length bs) 512) (leb (head_of bs) 63) (fault WrongLength 3 nowhere) (fault HeadTooLarge 3 (on_cell n 0)) (parts_from ts p n bs (head_of bs) 1 (head_of bs) 0) (63 - head_of bs)
    (λ long low none.
    let a : length bs ≡ 512 = eqb-true (length bs) 512 long in
    let b : head_of bs ≤ 63 = leb-true (head_of bs) 63 low in
    let d : length (drop (8 * (head_of bs + 1)) bs) ≡ length bs - 8 * (head_of bs + 1) = length-drop (8 * (head_of bs + 1)) bs in
    let e = from_free ts p n bs (head_of bs) 1 (head_of bs) 0 empty none in
    e ∙ omega (arith, a, b, d))

few_by : (b : Bool) (x : Fault) (m l : Remaining) → length m.parts ≤ 64 → Ok l ≡ ((b else x) >> Ok m) → length l.parts ≤ 64
few_by true x m l h e = let z : l ≡ m = cc in let P : Remaining → Type 0 = λ r. length r.parts ≤ 64 in subst P (sym z) h
few_by false x m l h e = absurd cc

pub few_left : (ts : List Descriptor) (p n : ℕ) (bs : List ℕ) (l : Remaining) → Ok l ≡ reader_of ts p n bs → length l.parts ≤ 64
few_left ts p n bs l e = few_by (eqb (length bs) 512) (fault WrongLength 3 nowhere) (parts_of ts p n bs) l (few_parts ts p n bs) e
