-- Over runs, lawful pages stay lawful and cursors stand on objects. Assumes nothing.
use Rattle.std.proofs.Common.{◌≡◌, ℕ, zero, suc, ◌+◌, ◌-◌, ◌/◌, ◌^◌, ◌<◌, ◌≤◌, Bool, true, not, eqb, ltb, leb, ◌⊎◌, List, [], ◌∷◌, length, get_or, set, replicate, Some, None, Ok, Err, Option, sym, refl, ap, ◌∙◌, subst, inl, inr, ⊎_elim, arith}
use Rattle.std.proofs.lemmas.List.{length-set}
use Rattle.std.proofs.lemmas.Bool.{cases_eq, ltb-true, lt-ltb, le-leb, ne_eqb, and_from, or_right}
use Rattle.fault.specs.declared.kinds.Cause.TheVariants.{AbsentLink, NoObject, NoRoom, NoType}
use Rattle.fault.specs.Faults.{nowhere, on_page, on_cell, fault}
use Rattle.fault.specs.Refusals.{Checked, ◌>>◌, ◌else◌}
use Rattle.page.specs.declared.descriptor.Descriptor.{Descriptor}
use Rattle.page.specs.Descriptors.{declared, type_of}
use Rattle.page.specs.Form.{head_of, type_at, first_fault}
use Rattle.page.specs.Links.{is_link}
use Rattle.store.specs.Pages.{bytes, Page, no_page, page_at, Whole}
use Rattle.store.specs.Rules.{written}
use Rattle.graph.specs.declared.calls.Call.{Call}
use Rattle.graph.specs.declared.calls.Call.TheVariants.{Stand, Follow, Read, Target, Note, Join, Part, Add, Leave, Where, Glance, Slot, Save}
use Rattle.page.specs.declared.link.Position.{Position}
use Rattle.graph.specs.declared.calls.Value.{Value}
use Rattle.graph.specs.Edits.{put_all, changed_bytes, changed}
use Rattle.graph.specs.Graphs.{Graph, Setting, opened}
use Rattle.graph.specs.Laws.{AllWhole, LawfulPage}
use Rattle.graph.specs.Standing.{Limits, Object, StaysLawful, LawfulKept, CursorsStand}
use Rattle.graph.specs.Steps
use Rattle.graph.specs.Steps.{Spot, on_spot, held, position, pointer, pointed, first, put_object, starts_at, put, cursor, page, writing, stands_on, link_field, follow, read, target, note, part, join, leave, tell_where, done, granted, settled, step, final}
use Rattle.graph.proofs.Adding.{add_kept}
use Rattle.graph.proofs.Cells.{here_changed, whole_changed}
use Rattle.graph.proofs.Fields.{Keeps, number_kept, link_kept}
use Rattle.graph.proofs.Grants.{Grants, given, denied, after, with, bound, came, holds}
use Rattle.graph.proofs.Opens.{opens, stands, SpotOf, spot}
use Rattle.graph.proofs.Runs.{written_changed, other_changed}
use Rattle.graph.proofs.Starts.{sound, start_past, start_within, agree}

-- what a step keeps of the pages
pub record Improves (ts : List Descriptor) (ps qs : List Page) : Type 0 where
  pub count : length qs ≡ length ps
  pub whole : AllWhole ps → AllWhole qs
  pub keeps : (n : ℕ) (bs : List ℕ) → LawfulPage ts ps n bs → StaysLawful ts qs n bs

improves_same : (ts : List Descriptor) (ps : List Page) → Improves ts ps ps
improves_same ts ps = record { count = refl; whole = λ h. h; keeps = λ n bs l. record { held = bs; lawful = l; begins = λ k e. e } }

improves_more : (ts : List Descriptor) (ps qs rs : List Page) → Improves ts ps qs → Improves ts qs rs → Improves ts ps rs
improves_more ts ps qs rs a b = record {
  count = b.count ∙ a.count;
  whole = λ h. b.whole (a.whole h);
  keeps = λ n bs l.
      let x = a.keeps n bs l in
      let y = b.keeps n x.held x.lawful in
      record { held = y.held; lawful = y.lawful; begins = λ k e. y.begins k (x.begins k e) };
}

length_changed : (n : ℕ) (xs : List (ℕ × ℕ)) (ps : List Page) → length (changed n xs ps) ≡ length ps
length_changed zero xs ps = refl
length_changed (suc i) xs ps = length-set ps i _

-- a page that is readable is one of the pages
in_range : (ps : List Page) (i : ℕ) (bs : List ℕ) → (get_or ps i no_page).content ≡ bytes bs → i < length ps
in_range [] i bs h = absurd cc
in_range (p ∷ ps) zero bs h = omega arith
in_range (p ∷ ps) (suc i) bs h = let z = in_range ps i bs h in omega arith

is_page_lem : (ps : List Page) (n : ℕ) (bs : List ℕ) → (page_at ps n).content ≡ bytes bs → (0 < n) × (n ≤ length ps)
is_page_lem ps zero bs h = absurd cc
is_page_lem ps (suc i) bs h = let z = in_range ps i bs h in (omega arith, omega arith)

-- page n is written anew and kept
module _ (ts : List Descriptor) (ps : List Page) (n : ℕ) (bs : List ℕ) (xs : List (ℕ × ℕ)) (h : (page_at ps n).content ≡ bytes bs) where
  here : (page_at (changed n xs ps) n).content ≡ bytes (put_all xs bs)
  here = ap (λ (p : Page). p.content) (here_changed n xs ps) ∙ ap (changed_bytes xs) h

  here_written : (page_at (written ps n (put_all xs bs)) n).content ≡ bytes (put_all xs bs)
  here_written = ap (λ qs. (page_at qs n).content) (written_changed ps n bs xs h) ∙ here

  length_written : length (written ps n (put_all xs bs)) ≡ length ps
  length_written = ap length (written_changed ps n bs xs h) ∙ length_changed n xs ps

  module _ (k : Keeps ts (length ps) n bs (put_all xs bs)) where
    keeps : (m : ℕ) (cs : List ℕ) → LawfulPage ts ps m cs → StaysLawful ts (changed n xs ps) m cs
    keeps m cs l =
        ⊎_elim
        (λ q. let z : bytes bs ≡ bytes cs = sym h ∙ subst (λ x. (page_at ps x).content ≡ bytes cs) q l.reads in
        let y : bs ≡ cs = cc in
        record {
          held = put_all xs bs;
          lawful = record {
            reads = subst (λ x. (page_at (changed n xs ps) x).content ≡ bytes (put_all xs bs)) (sym q) here;
            faultless = subst (λ x. first_fault (length (changed n xs ps)) x (put_all xs bs) ts ≡ Ok tt) (sym q) (ap (λ x. first_fault x n (put_all xs bs) ts) (length_changed n xs ps) ∙ k.lawful);
          };
          begins = λ j e. k.started j (ap (λ x. starts_at ts x j) y ∙ e);
        })
        (λ q. record {
          held = cs;
          lawful = record {
            reads = ap (λ (x : Page). x.content) (other_changed m n xs ps (ne_eqb m n q)) ∙ l.reads;
            faultless = ap (λ x. first_fault x m cs ts) (length_changed n xs ps) ∙ l.faultless;
          };
          begins = λ j e. e;
        })
        (cases_eq m n)

    improves : Improves ts ps (written ps n (put_all xs bs))
    improves = subst (Improves ts ps) (sym (written_changed ps n bs xs h)) (record { count = length_changed n xs ps; whole = whole_changed n xs ps; keeps = keeps })

-- every cursor stands on an object
abbrev pub Standing : List Descriptor → Graph → Type 0
Standing ts g = (c : ℕ) (at : Position) → get_or g.cursors c None ≡ Some at → Object ts g.pages at

object_kept : (ts : List Descriptor) (ps qs : List Page) (at : Position) → Improves ts ps qs → Object ts ps at → Object ts qs at
object_kept ts ps qs at i o =
    let x = i.keeps at.page o.held o.lawful in
    record { held = x.held; lawful = x.lawful; begins = x.begins at.cell o.begins }

at_set : (xs : List (Option Position)) (c i : ℕ) (v : Option Position) (a : Position) → get_or (set xs c v) i None ≡ Some a → (v ≡ Some a) ⊎ (get_or xs i None ≡ Some a)
at_set [] c i v a h = inr h
at_set (x ∷ xs) zero zero v a h = inl h
at_set (x ∷ xs) zero (suc i) v a h = inr h
at_set (x ∷ xs) (suc c) zero v a h = inr h
at_set (x ∷ xs) (suc c) (suc i) v a h = at_set xs c i v a h

-- what a granted call leaves
pub record Leaves (ts : List Descriptor) (g h : Graph) : Type 0 where
  pub pages : Improves ts g.pages h.pages
  pub cursors : Standing ts h

pub begins_in : (ts : List Descriptor) (ps : List Page) (at : Position) (bs : List ℕ) → Object ts ps at → LawfulPage ts ps at.page bs → starts_at ts bs at.cell ≡ true
begins_in ts ps at bs o l =
    let z : bytes o.held ≡ bytes bs = sym o.lawful.reads ∙ l.reads in
    let y : o.held ≡ bs = cc in
    ap (λ x. starts_at ts x at.cell) (sym y) ∙ o.begins

-- the long pointer of an object
record Pointer (p x : ℕ) : Type 0 where
  small : x < 2 ^ 64
  link : is_link p x ≡ true

to_object : (ts : List Descriptor) (ps : List Page) (at : Position) → length ps ≤ 1024 → Object ts ps at → Pointer (length ps) (pointer at)
to_object ts ps at few o =
    let r = is_page_lem ps at.page o.held o.lawful.reads in
    let g = sound ts (length ps) at.page o.held o.lawful.faultless in
    let b = sym (agree ts (length ps) at.page o.held o.lawful.faultless at.cell) ∙ o.begins in
    let u = g.head in
    let lo = start_past ts (length ps) at.page o.held at.cell 1 (head_of o.held) 0 b in
    let hi = start_within ts (length ps) at.page o.held at.cell 1 (head_of o.held) 0 b g.objects in
    let r0 = r.0 in
    let r1 = r.1 in
    record {
      small = omega arith;
      link = or_right (eqb (pointer at) 0) _ (and_from (ltb 0 (pointer at / 64)) _ (lt-ltb _ _ (omega arith)) (and_from (leb (pointer at / 64) (length ps)) _ (le-leb _ _ (omega arith)) (lt-ltb _ _ (omega arith))));
    }

module _ (s : Setting) (g : Graph) (lim : Limits s g.pages) (stand : Standing s.types g) where
  same : Leaves s.types g g
  same = record { pages = improves_same s.types g.pages; cursors = stand }

  long : (n : ℕ) (bs : List ℕ) → (page_at g.pages n).content ≡ bytes bs → length bs ≡ 512
  long n bs e = subst Whole e (lim.whole n)

  -- the cursor c is set, and the pages are improved
  moves : (c : ℕ) (v : Option Position) (qs : List Page) → Improves s.types g.pages qs → ((a : Position) → v ≡ Some a → Object s.types qs a) → Leaves s.types g (record { pages = qs; cursors = set g.cursors c v })
  moves c v qs i h = record {
    pages = i;
    cursors = λ d a e. ⊎_elim (h a) (λ q. object_kept s.types g.pages qs a i (stand d a q)) (at_set g.cursors c d v a e);
  }

  edits : (qs : List Page) → Improves s.types g.pages qs → Leaves s.types g (record { pages = qs; cursors = g.cursors })
  edits qs i = record { pages = i; cursors = λ d a e. object_kept s.types g.pages qs a i (stand d a e) }

  module _ (asked : Bool → Bool) (c f : ℕ) (o : Spot) (q : SpotOf s g asked c f o) where
    begins : starts_at s.types o.bytes o.cell ≡ true
    begins = begins_in s.types g.pages (position o.page o.cell) o.bytes (stand c (position o.page o.cell) q.stood) q.lawful

    within : o.field < (type_at s.types o.bytes o.cell).size
    within = ltb-true o.field (type_at s.types o.bytes o.cell).size q.within

    puts : (x : ℕ) → Keeps s.types (length g.pages) o.page o.bytes (put_all ((o.cell + 1 + o.field, x) ∷ []) o.bytes) → Leaves s.types g (put s g o x)
    puts x k = edits _ (improves s.types g.pages o.page o.bytes ((o.cell + 1 + o.field, x) ∷ []) q.lawful.reads k)

  noted : (c f x : ℕ) (o : Spot) → SpotOf s g not c f o → Leaves s.types g (put s g o x)
  noted c f x o q =
      puts not c f o q x (number_kept s.types (length g.pages) o.page o.bytes (long o.page o.bytes q.lawful.reads) q.lawful.faultless o.cell o.field (begins not c f o q) (within not c f o q) x q.kind)

  joined : (c f x : ℕ) (o : Spot) → SpotOf s g (λ b. b) c f o → Pointer (length g.pages) x → Leaves s.types g (put s g o x)
  joined c f x o q l =
      puts (λ b. b) c f o q x (link_kept s.types (length g.pages) o.page o.bytes (long o.page o.bytes q.lawful.reads) q.lawful.faultless o.cell o.field (begins (λ b. b) c f o q) (within (λ b. b) c f o q) x l.small l.link)

  on : (at : Position) (bs : List ℕ) → LawfulPage s.types g.pages at.page bs → starts_at s.types bs at.cell ≡ true → (a : Position) → Some at ≡ Some a → Object s.types g.pages a
  on at bs l e a q = let z : at ≡ a = cc in subst (Object s.types g.pages) z (record { held = bs; lawful = l; begins = e })

  added : (c t n : ℕ) (bs : List ℕ) → LawfulPage s.types g.pages n bs → declared s.types t ≡ true → leb (1 + (type_of s.types t).size) (63 - head_of bs) ≡ true → Leaves s.types g (record { pages = written g.pages n (put_object t (type_of s.types t).size bs); cursors = set g.cursors c (Some (position n (head_of bs + 1))) })
  added c t n bs l known free =
      let xs : List (ℕ × ℕ) = (head_of bs + 1, t) ∷ (0, head_of bs + 1 + (type_of s.types t).size) ∷ [] in
      let k = add_kept s.types (length g.pages) n bs t (long n bs l.reads) lim.types l.faultless known free in
      let qs : List Page = written g.pages n (put_all xs bs) in
      let here : Object s.types qs (position n (head_of bs + 1)) = record {
        held = put_all xs bs;
        lawful = record {
          reads = here_written s.types g.pages n bs xs l.reads;
          faultless = ap (λ x. first_fault x n (put_all xs bs) s.types) (length_written s.types g.pages n bs xs l.reads) ∙ k.0.lawful;
        };
        begins = k.1;
      } in
      moves c (Some (position n (head_of bs + 1))) qs (improves s.types g.pages n bs xs l.reads k.0)
      (λ a q. let z : position n (head_of bs + 1) ≡ a = cc in subst (Object s.types qs) z here)

  abbrev After : Value × Graph → Type 0
  After x = Leaves s.types g x.1

  done_leaves : (r : Checked Graph) → Grants (Leaves s.types g) r → Grants After (done s g r)
  done_leaves r h = with (Leaves s.types g) h λ x q. given q

  stood : (c : ℕ) (at : Position) (bs : List ℕ) → LawfulPage s.types g.pages at.page bs → Grants (Leaves s.types g) (Steps.object s g bs at >> Ok (Steps.placed s g c (Some at)))
  stood c at bs l =
      holds (starts_at s.types bs at.cell) (fault NoObject 2 (on_cell at.page at.cell)) λ e.
      given (moves c (Some at) g.pages (improves_same s.types g.pages) (on at bs l e))

  all_leave : (c : Call) → Grants After (granted s g c)
  all_leave (Stand c n k) = done_leaves (Steps.stand s g c n k) (after (cursor c) (after (page s g n) (with _ (opens s g n) λ bs l. stood c (position n (first k)) bs l)))
  all_leave (Follow c f d) =
      done_leaves (follow s g c f d) (after (cursor c) (after (cursor d) (bound (link_field s g c f) λ o. after (ltb 0 (held o) else fault AbsentLink 2 (on_spot o)) (came (on_spot o)
      (with _ (opens s g (pointed (held o)).page) λ bs l. stood d (pointed (held o)) bs l)))))
  all_leave (Read c f) = bound (read s g c f) λ x. given same
  all_leave (Target c f) = bound (target s g c f) λ x. given same
  all_leave (Note c f x) = done_leaves (note s g c f x) (after (cursor c) (with _ (spot s g not c f) λ o q. after (writing s g o.page (on_spot o)) (given (noted c f x o q))))
  all_leave (Join c f d) =
      done_leaves (join s g c f d) (after (cursor c) (after (cursor d) (after (stands_on s g c) (with _ (stands s g d) λ at e. with _ (spot s g (λ b. b) c f) λ o q.
      after (writing s g o.page (on_spot o)) (given (joined c f (pointer at) o q (to_object s.types g.pages at lim.pages (stand d at e))))))))
  all_leave (Part c f) = done_leaves (part s g c f) (after (cursor c) (with _ (spot s g (λ b. b) c f) λ o q. after (writing s g o.page (on_spot o)) (given (joined c f 0 o q (record { small = omega arith; link = refl })))))
  all_leave (Add c t n) =
      with (λ x. Leaves s.types g x.1) (after (cursor c) (holds (declared s.types t) (fault NoType 2 nowhere) λ known. after (page s g n) (with _ (opens s g n) λ bs l. after (writing s g n (on_page n))
      (holds (leb (1 + (type_of s.types t).size) (63 - head_of bs)) (fault NoRoom 2 (on_page n)) λ free. given (added c t n bs l known free))))) λ x q. given q
  all_leave (Leave c) = done_leaves (leave s g c) (after (cursor c) (given (moves c None _ (improves_same s.types g.pages) (λ a q. absurd cc))))
  all_leave (Where c) = bound (tell_where s g c) λ x. given same
  all_leave (Glance c f) = bound (target s g c f) λ x. given same
  all_leave (Slot i) = given same
  all_leave Save = given same

  pub step_leaves : (c : Call) → Leaves s.types g (step s g c).1
  step_leaves c = go (granted s g c) (all_leave c)
    where
      go : (r : Checked (Value × Graph)) → Grants After r → Leaves s.types g (settled g r).1
      go (Ok x) (given h) = h
      go (Err e) denied = same

run_leaves : (s : Setting) (g : Graph) (cs : List Call) → Limits s g.pages → Standing s.types g → Leaves s.types g (final s g cs)
run_leaves s g [] lim stand = record { pages = improves_same s.types g.pages; cursors = stand }
run_leaves s g (c ∷ cs) lim stand =
    let x = step_leaves s g lim stand c in
    let y = run_leaves s (step s g c).1 cs (record { types = lim.types; pages = subst (λ n. n ≤ 1024) (sym x.pages.count) lim.pages; whole = x.pages.whole lim.whole }) x.cursors in
    record { pages = improves_more s.types g.pages (step s g c).1.pages (final s g (c ∷ cs)).pages x.pages y.pages; cursors = y.cursors }

empty : (n c : ℕ) (at : Position) → get_or (replicate n None) c None ≡ Some at → ⊥
empty zero c at h = let z : ◌≡◌ {A = ℕ} 0 1 = cc in omega arith
empty (suc n) zero at h = let z : ◌≡◌ {A = ℕ} 0 1 = cc in omega arith
empty (suc n) (suc c) at h = empty n c at h

pub lawful_kept : LawfulKept
lawful_kept s ps cs n bs lim l = (run_leaves s (opened ps) cs lim (λ c at e. absurd (empty 16 c at e))).pages.keeps n bs l

pub cursors_stand : CursorsStand
cursors_stand s ps cs c at lim e = (run_leaves s (opened ps) cs lim (λ c at e. absurd (empty 16 c at e))).cursors c at e
