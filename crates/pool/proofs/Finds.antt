-- An opening that finds the page in a frame, and one that reads it first. Assumes nothing.
use Rattle.std.proofs.Common.{◌≡◌, ℕ, ◌<◌, ◌≤◌, Bool, true, false, cond, ◌||◌, eqb, leb, List, [], length, get_or, Some, None, Ok, Err, Option, sym, refl, ap, ◌∙◌, ⊎_elim, arith}
use Rattle.std.proofs.lemmas.Bool.{both_ways, cases_Bool, or_cases, eq-eqb, eqb-true, ltb-false}
use Rattle.std.proofs.lemmas.List.Quantifiers.{position-Some}
use Rattle.std.proofs.lemmas.Option.{none-some}
use Rattle.std.proofs.lemmas.List.Sums.{fails_before_first}
use Rattle.std.specs.List.{position, position_or_len}
use Rattle.fault.specs.declared.kinds.Cause.TheVariants.{NoAddresses, NoPage, WrongLength}
use Rattle.fault.specs.declared.kinds.Fault.{Fault}
use Rattle.fault.specs.Faults.{on_page, nowhere, fault, mark}
use Rattle.fault.specs.Refusals.{Checked, ◌>>=◌, ◌>>◌, ◌else◌}
use Rattle.pageset.specs.Sets.{holds, tally}
use Rattle.address.specs.Pairing as pairing
use Rattle.page.specs.Form.{first_fault, examined}
use Rattle.page.specs.Walks.{cells_of, links_to}
use Rattle.page.specs.declared.descriptor.Descriptor.{Descriptor}
use Rattle.frame.specs.declared.frame.Frame.{Frame}
use Rattle.store.specs.Pages.{Content, bytes, marked, Whole, Page, page_at, is_page}
use Rattle.store.specs.Rules.{readable, held_by, read_buffer}
use Rattle.stands.specs.Frames.{HasAt, Lacks, long_cells, long_bytes, stands_for}
use Rattle.stands.proofs.Courses.{shown}
use Rattle.stands.proofs.Layers.{has_within}
use Rattle.stands.proofs.Slots.{slots_suffice}
use Rattle.pool.specs.Looking.{is_in}
use Rattle.pool.specs.Needs.{needed, Covers}
use Rattle.pool.specs.Meaning.{Fine}
use Rattle.pool.specs.Fetching.{fetch_answer}
use Rattle.pool.specs.Opening.{wanted_with, held_bytes, Opened, Incoming}
use Rattle.pool.proofs.Opens.{cells_long, needed_at}
use Rattle.pool.proofs.Enters.{opening_granted}

holds_page : (n : ℕ) (o : Option Frame) → is_in n o ≡ true → (f : Frame) × ((o ≡ Some f) × (f.page ≡ n))
holds_page n None e = absurd (both_ways false refl e)
holds_page n (Some f) e = (f, (refl, eqb-true f.page n e))

-- the frame that a search finds holds the page
pub found_at : (fs : List (Option Frame)) (n i : ℕ) → position (is_in n) fs ≡ Some i → (f : Frame) × (HasAt fs i f × (f.page ≡ n))
found_at fs n i e = holds_page n (get_or fs i None) (position-Some (is_in n) fs i None e).1

nowhere_none : (b : Bool) (k : ℕ) → cond b (Some k) None ≡ None → b ≡ false
nowhere_none true k e = absurd (none-some k (sym e))
nowhere_none false k e = refl

-- and where it finds none, none does
pub found_none : (fs : List (Option Frame)) (n : ℕ) → position (is_in n) fs ≡ None → Lacks fs n
found_none fs n e i f h is =
    let past = ltb-false (position_or_len (is_in n) fs) (length fs) (nowhere_none _ _ e) in
    let here = has_within fs i f h in
    both_ways (is_in n (get_or fs i None)) (fails_before_first (is_in n) fs i None (omega (arith, past, here))) (ap (is_in n) h ∙ eq-eqb f.page n is)

-- the page is in a frame: its slots were counted when it came
module _
    (ts : List Descriptor) (a used : ℕ) (slots page : List ℕ) (ps : List Page) (fs : List (Option Frame)) (known told count : ℕ) (standing : ℕ → Bool) (n k : ℕ) (f : Frame)
    (fine : Fine ts slots page ps fs known told count)
    (table : pairing.Sound page slots a used)
    (covered : Covers slots (needed fs))
    (stand : Covers slots standing)
    (has : HasAt fs k f) (is : f.page ≡ n)
  where
    own : (m : ℕ) → 0 < m → m ≤ 1024 → holds f.needs.words m ≡ (eqb m n || links_to ts (cells_of (long_bytes ts page f)) m)
    own m low high =
        fine.needs k f has m low high
        ∙ ap (λ j. eqb m j || links_to ts (long_cells ts page f) m) is
        ∙ ap (λ (xs : List ℕ). eqb m n || links_to ts xs m) (sym (cells_long ts page f table.within.1.1.0))

    few : tally (wanted_with ts standing n (long_bytes ts page f)) 1024 ≤ a
    few =
        slots_suffice (wanted_with ts standing n (long_bytes ts page f)) page slots a used table
        (λ m low high e. ⊎_elim
        (λ (w : standing m ≡ true). stand m low high w)
        (λ (w : (eqb m n || links_to ts (cells_of (long_bytes ts page f)) m) ≡ true). covered m low high (needed_at fs k m f has (own m low high ∙ w)))
        (or_cases (standing m) _ e))

    pub resident : Opened ts a slots page ps fs slots page ps fs known told count standing n (Ok k)
    resident =
        let g = shown ts slots page ps fs fine.sound in
        record {
          fine = fine;
          stands = refl;
          answer = ap (λ (o : Option Frame). Ok (held_bytes ts page o)) has
              ∙ sym (opening_granted ts a (stands_for ts page ps fs) standing n (long_bytes ts page f)
              (ap (λ m. (page_at (stands_for ts page ps fs) m).content) (sym is) ∙ g.held k f has)
              (ap (λ m. first_fault m n (long_bytes ts page f) ts) g.many ∙ ap (λ m. first_fault (length ps) m (long_bytes ts page f) ts) (sym is) ∙ fine.lawful k f has)
              few);
          there = (f, (has, is));
          kept = λ _ _ _. refl;
        }

-- what reading and examining a page answers, by its content
module _ (layer : ℕ) (ts : List Descriptor) (ps : List Page) (n : ℕ) (buffer : List ℕ) (long : length buffer ≡ 512) (page : is_page ps n ≡ true) where
  content_answer : (known : ℕ) (c : Content) → Checked (Unit {0})
  content_answer known c = readable c n >> examined known n (cond (eqb (length buffer) 512) (held_by c buffer) buffer) ts

  fetch_is : (known : ℕ) → fetch_answer layer ts known ps n buffer ≡ content_answer known (page_at ps n).content
  unfolding content_answer
  fetch_is known =
      ap (λ b. ((b else fault WrongLength layer nowhere) >> ((is_page ps n else fault NoPage layer (on_page n)) >> readable (page_at ps n).content n)) >> examined known n (read_buffer ps n buffer) ts) (eq-eqb (length buffer) 512 long)
      ∙ ap (λ b. ((b else fault NoPage layer (on_page n)) >> readable (page_at ps n).content n) >> examined known n (read_buffer ps n buffer) ts) page

  examined_is : (known : ℕ) (bs : List ℕ) → length bs ≡ 512 → content_answer known (bytes bs) ≡ first_fault known n bs ts
  unfolding content_answer
  examined_is known bs l =
      ap (λ b. examined known n (cond b bs buffer) ts) (eq-eqb (length buffer) 512 long)
      ∙ ap (λ b. (b else fault WrongLength 3 nowhere) >> first_fault known n bs ts) (eq-eqb (length bs) 512 l)

  -- a page that passes has bytes without a fault
  passes : (known : ℕ) (c : Content) → Whole c → content_answer known c ≡ Ok tt → (c ≡ bytes (cond (eqb (length buffer) 512) (held_by c buffer) buffer)) × (first_fault known n (cond (eqb (length buffer) 512) (held_by c buffer) buffer) ts ≡ Ok tt)
  unfolding content_answer
  passes known (bytes bs) w e =
      let at : cond (eqb (length buffer) 512) bs buffer ≡ bs = ap (λ b. cond b bs buffer) (eq-eqb (length buffer) 512 long) in
      (ap bytes (sym at), ap (λ xs. first_fault known n xs ts) at ∙ sym (examined_is known bs w) ∙ e)
  passes known (marked cause l) w e = let z : ◌≡◌ {A = ℕ} 0 1 = cc in absurd (omega arith)

  pub fetched_incoming : (fs : List (Option Frame)) (known : ℕ) → known ≡ length ps → Lacks fs n → Whole (page_at ps n).content → fetch_answer layer ts known ps n buffer ≡ Ok tt → Incoming ts ps fs n (read_buffer ps n buffer)
  fetched_incoming fs known same lacks w e =
      let p = passes known (page_at ps n).content w (sym (fetch_is known) ∙ e) in
      record { lacks = lacks; content = p.0; lawful = ap (λ m. first_fault m n (read_buffer ps n buffer) ts) (sym same) ∙ p.1 }

  -- one that does not pass is refused by the opening alike
  fails : (a : ℕ) (standing : ℕ → Bool) (many known : ℕ) (c : Content) (e : Fault) → known ≡ many → Whole c → content_answer known c ≡ Err e
      → ((readable c n >> Ok (held_by c [])) >>= (λ bs. first_fault many n bs ts >> ((leb (tally (wanted_with ts standing n bs) 1024) a else fault NoAddresses 4 (on_page n)) >> Ok bs))) ≡ Err e
  unfolding content_answer
  fails a standing many known (bytes bs) e same w x =
      ap (λ (r : Checked (Unit {0})). r >> ((leb (tally (wanted_with ts standing n bs) 1024) a else fault NoAddresses 4 (on_page n)) >> Ok bs)) (ap (λ m. first_fault m n bs ts) (sym same) ∙ sym (examined_is known bs w) ∙ x)
  fails a standing many known (marked cause l) e same w x =
      let z : mark cause l n ≡ e = cc in ap Err z

  pub fetch_refused : (a : ℕ) (standing : ℕ → Bool) (slots pages : List ℕ) (fs : List (Option Frame)) (known told count : ℕ) (e : Fault)
      → Fine ts slots pages ps fs known told count → Lacks fs n → Whole (page_at ps n).content → fetch_answer layer ts known ps n buffer ≡ Err e
      → Opened ts a slots pages ps fs slots pages ps fs known told count standing n (Err e)
  fetch_refused a standing slots pages fs known told count e fine lacks w x =
      let g = shown ts slots pages ps fs fine.sound in
      let G = stands_for ts pages ps fs in
      let at : (page_at G n).content ≡ (page_at ps n).content = ap (λ (y : Page). y.content) (g.free n lacks) in
      record {
        fine = fine;
        stands = refl;
        answer = sym (
            ap (λ (c : Content). (readable c n >> Ok (held_by c [])) >>= (λ bs. first_fault (length G) n bs ts >> ((leb (tally (wanted_with ts standing n bs) 1024) a else fault NoAddresses 4 (on_page n)) >> Ok bs))) at
            ∙ fails a standing (length G) known (page_at ps n).content e (fine.counted ∙ sym g.many) w (sym (fetch_is known) ∙ x));
        there = tt;
        kept = λ _ _ _. refl;
      }

no_fetch : (b : Bool) (x y : Fault) (r s : Checked (Unit {0})) → (((b else x) >> ((false else y) >> r)) >> s) ≡ Ok tt → ⊥
no_fetch true x y r s e = let z : ◌≡◌ {A = ℕ} 0 1 = cc in omega arith
no_fetch false x y r s e = let z : ◌≡◌ {A = ℕ} 0 1 = cc in omega arith

-- what can be read is a page
pub fetched_page : (layer : ℕ) (ts : List Descriptor) (ps : List Page) (n known : ℕ) (buffer : List ℕ) → fetch_answer layer ts known ps n buffer ≡ Ok tt → is_page ps n ≡ true
fetched_page layer ts ps n known buffer e =
    ⊎_elim
    (λ (a : is_page ps n ≡ true). a)
    (λ (a : is_page ps n ≡ false).
    absurd (no_fetch (eqb (length buffer) 512) (fault WrongLength layer nowhere) (fault NoPage layer (on_page n)) (readable (page_at ps n).content n) (examined known n (read_buffer ps n buffer) ts)
    (ap (λ p. (((eqb (length buffer) 512) else fault WrongLength layer nowhere) >> ((p else fault NoPage layer (on_page n)) >> readable (page_at ps n).content n)) >> examined known n (read_buffer ps n buffer) ts) (sym a) ∙ e)))
    (cases_Bool (is_page ps n))

-- what comes after a granted step, and a step that is refused
pub then_bytes : (r : Checked (Unit {0})) (xs ys : List ℕ) → (r >> Ok xs) ≡ Ok ys → (r ≡ Ok tt) × (xs ≡ ys)
then_bytes (Ok tt) xs ys e = (refl, cc)
then_bytes (Err f) xs ys e = absurd cc

pub then_refused : (r : Checked (Unit {0})) (xs : List ℕ) (e : Fault) → (r >> Ok xs) ≡ Err e → r ≡ Err e
then_refused (Ok tt) xs e h = absurd cc
then_refused (Err f) xs e h = let z : f ≡ e = cc in ap Err z
