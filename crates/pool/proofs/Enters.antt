-- An opening that brings a page in, and one that is refused by 18. Assumes nothing.
use Rattle.std.proofs.Common.{◌≡◌, ℕ, zero, suc, ◌/◌, ◌<◌, ◌≤◌, Bool, true, false, ◌&&◌, ◌||◌, eqb, ltb, leb, List, [], ◌∷◌, length, get_or, Ok, Err, Option, sym, refl, ap, ◌∙◌, subst, ⊎_elim, arith}
use Rattle.std.proofs.lemmas.List.{get_or_past}
use Rattle.std.proofs.lemmas.Bool.{cases_eq, cases_lt, both_ways, or_left, or_right, or_cases, and_parts, and_from, eq-eqb, ne_eqb, eqb-true, leb-true, ltb-true, lt-ltb, lt-leb, le-leb}
use Rattle.fault.specs.declared.kinds.Cause.TheVariants.{NoAddresses}
use Rattle.fault.specs.Faults.{on_page, fault}
use Rattle.fault.specs.Refusals.{Checked, ◌>>=◌, ◌>>◌, ◌else◌}
use Rattle.pageset.specs.Sets.{holds, tally}
use Rattle.pageset.specs.declared.PageSet.{PageSet}
use Rattle.address.specs.Pairing.{Agree, Most}
use Rattle.page.specs.Form.{first_fault}
use Rattle.page.specs.Links.{is_link, is_long_pointer}
use Rattle.page.specs.Walks.{cells_of, link_cells, leads, any_leads, links_to}
use Rattle.page.specs.declared.descriptor.Descriptor.{Descriptor}
use Rattle.frame.specs.Links.{is_page}
use Rattle.frame.specs.declared.frame.Frame.{Frame}
use Rattle.frame.proofs.Valid.{valid_links}
use Rattle.store.specs.Pages.{Content, bytes, marked, Whole, Page, no_page, page_at}
use Rattle.store.specs.Rules.{readable, held_by}
use Rattle.stands.specs.Frames.{HasAt, long_cells, long_bytes, stands_for}
use Rattle.stands.specs.Laws.{Keeps}
use Rattle.stands.proofs.Cells.{leads_to}
use Rattle.stands.proofs.Courses.{shown}
use Rattle.graph.specs.Graphs.{fetched}
use Rattle.pool.specs.Meaning.{Fine}
use Rattle.pool.specs.Bringing.{Brought}
use Rattle.pool.specs.Opening.{wanted_with, opening_with, held_bytes, Opened, Incoming}
use Rattle.pool.proofs.Frames.{tally_same}
use Rattle.pool.proofs.Opens.{cells_long, opened_keeps, same_length, there, new_long, each_frame}

pub or_turn : (x y : Bool) → (x || y) ≡ (y || x)
or_turn true true = refl
or_turn true false = refl
or_turn false true = refl
or_turn false false = refl

and_true : (x y : Bool) → y ≡ true → (x && y) ≡ x
and_true true y e = e
and_true false y e = refl

fetched_is : (ps : List Page) (n : ℕ) (bs : List ℕ) → (page_at ps n).content ≡ bytes bs → fetched ps n ≡ Ok bs
fetched_is ps n bs e = ap (λ (c : Content). readable c n >> Ok (held_by c [])) e

-- what is left of an opening once the page is readable and lawful
pub opening_is : (ts : List Descriptor) (a : ℕ) (G : List Page) (standing : ℕ → Bool) (n : ℕ) (bs : List ℕ) → (page_at G n).content ≡ bytes bs → first_fault (length G) n bs ts ≡ Ok tt
    → opening_with ts a G standing n ≡ ((leb (tally (wanted_with ts standing n bs) 1024) a else fault NoAddresses 4 (on_page n)) >> Ok bs)
opening_is ts a G standing n bs e ok =
    ap (λ (r : Checked (List ℕ)). r >>= (λ xs. first_fault (length G) n xs ts >> ((leb (tally (wanted_with ts standing n xs) 1024) a else fault NoAddresses 4 (on_page n)) >> Ok xs))) (fetched_is G n bs e)
    ∙ ap (λ (r : Checked (Unit {0})). r >> ((leb (tally (wanted_with ts standing n bs) 1024) a else fault NoAddresses 4 (on_page n)) >> Ok bs)) ok

pub opening_granted : (ts : List Descriptor) (a : ℕ) (G : List Page) (standing : ℕ → Bool) (n : ℕ) (bs : List ℕ) → (page_at G n).content ≡ bytes bs → first_fault (length G) n bs ts ≡ Ok tt
    → tally (wanted_with ts standing n bs) 1024 ≤ a → opening_with ts a G standing n ≡ Ok bs
opening_granted ts a G standing n bs e ok few =
    opening_is ts a G standing n bs e ok ∙ ap (λ t. (t else fault NoAddresses 4 (on_page n)) >> Ok bs) (le-leb _ a few)

pub opening_refused : (ts : List Descriptor) (a : ℕ) (G : List Page) (standing : ℕ → Bool) (n : ℕ) (bs : List ℕ) → (page_at G n).content ≡ bytes bs → first_fault (length G) n bs ts ≡ Ok tt
    → a < tally (wanted_with ts standing n bs) 1024 → opening_with ts a G standing n ≡ Err (fault NoAddresses 4 (on_page n))
opening_refused ts a G standing n bs e ok many =
    opening_is ts a G standing n bs e ok ∙ ap (λ t. (t else fault NoAddresses 4 (on_page n)) >> Ok bs) (lt-leb _ a many)

bytes_mark : (xs : List ℕ) (a b : ℕ) → marked a b ≡ bytes xs → ⊥
bytes_mark xs a b e = let z : ◌≡◌ {A = ℕ} 0 1 = cc in omega arith

-- a page that has bytes is one of the store's
pub is_there : (ps : List Page) (n : ℕ) (bs : List ℕ) → (page_at ps n).content ≡ bytes bs → (0 < n) × (n ≤ length ps)
is_there ps zero bs e = absurd (bytes_mark bs 0 0 e)
is_there ps (suc k) bs e = (
  omega arith,
  ⊎_elim
      (λ (l : k < length ps). omega arith)
      (λ (l : length ps ≤ k). absurd (bytes_mark bs 0 0 (ap (λ (x : Page). x.content) (sym (get_or_past ps k no_page l)) ∙ e)))
      (cases_lt k (length ps)),
)

any_of : (n : ℕ) (bs : List Bool) (xs : List ℕ) → any_leads n bs xs ≡ true → (i : ℕ) × ((get_or bs i false ≡ true) × (leads n (get_or xs i 0) ≡ true))
any_of n [] xs e = absurd (both_ways false refl e)
any_of n (b ∷ bs) [] e = absurd (both_ways false refl e)
any_of n (b ∷ bs) (x ∷ xs) e =
    ⊎_elim
    (λ (a : (b && leads n x) ≡ true). (0, and_parts b (leads n x) a))
    (λ (a : any_leads n bs xs ≡ true). let r = any_of n bs xs a in (suc r.0, r.1))
    (or_cases (b && leads n x) (any_leads n bs xs) e)

link_range : (p x : ℕ) → (x ≡ 0 → ⊥) → is_link p x ≡ true → (0 < x / 64) × (x / 64 ≤ p)
link_range p x some e =
    ⊎_elim
    (λ (z : eqb x 0 ≡ true). absurd (some (eqb-true x 0 z)))
    (λ (l : is_long_pointer p x ≡ true).
    let a = and_parts (ltb 0 (x / 64)) _ l in
    (ltb-true 0 (x / 64) a.0, leb-true (x / 64) p (and_parts (leb (x / 64) p) _ a.1).0))
    (or_cases (eqb x 0) (is_long_pointer p x) e)

-- a lawful page links to pages of the store
pub linked_within : (ts : List Descriptor) (p n : ℕ) (bs : List ℕ) (m : ℕ) → first_fault p n bs ts ≡ Ok tt → links_to ts (cells_of bs) m ≡ true → (0 < m) × (m ≤ p)
linked_within ts p n bs m ok e =
    let w = any_of m (link_cells ts (cells_of bs)) (cells_of bs) e in
    let x = get_or (cells_of bs) w.0 0 in
    let l = leads_to m x w.1.1 in
    let r = link_range p x l.0 (valid_links ts p n bs w.0 ok w.1.0) in
    (omega (arith, l.1, r.0), omega (arith, l.1, r.1))

-- the pages linked to, and then the page itself
pub needs_are : (ts : List Descriptor) (xs : List ℕ) (n : ℕ) (v w : ℕ → Bool) → ((m : ℕ) → v m ≡ (links_to ts xs m && is_page m)) → w n ≡ true → ((m : ℕ) → (m ≡ n → ⊥) → w m ≡ v m) → (m : ℕ) → 0 < m → m ≤ 1024 → w m ≡ (eqb m n || links_to ts xs m)
needs_are ts xs n v w links own others m low high =
    ⊎_elim
    (λ (e : m ≡ n). ap w e ∙ own ∙ sym (or_left (eqb m n) (links_to ts xs m) (eq-eqb m n e)))
    (λ (e : m ≡ n → ⊥).
    others m e ∙ links m
    ∙ and_true (links_to ts xs m) (is_page m) (and_from (ltb 0 m) (leb m 1024) (lt-ltb 0 m low) (le-leb m 1024 high))
    ∙ sym (ap (λ b. b || links_to ts xs m) (ne_eqb m n e)))
    (cases_eq m n)

module _
    (ts : List Descriptor) {Pol Sto : Type 0} (picks : Pol → List Bool → ℕ → Pol → Type 0) (pages : Sto → List Page) (few : (s : Sto) → length (pages s) ≤ 1024)
    (slots page : List ℕ) (p standing : ℕ → Bool) (a c n known told : ℕ) (bs : List ℕ) (needs : PageSet) (fs : List (Option Frame)) (pol : Pol) (st : Sto) (slots' page' : List ℕ) (fs' : List (Option Frame)) (st' : Sto)
    (fine : Fine ts slots page (pages st) fs known told c)
    (incoming : Incoming ts (pages st) fs n bs)
    (asked : (m : ℕ) → p m ≡ (holds needs.words m || standing m))
    (own : (m : ℕ) → 0 < m → m ≤ 1024 → holds needs.words m ≡ (eqb m n || links_to ts (cells_of bs) m))
  where
    abbrev G : List Page
    G = stands_for ts page (pages st) fs

    in_graph : (page_at G n).content ≡ bytes bs
    in_graph = ap (λ (x : Page). x.content) ((shown ts slots page (pages st) fs fine.sound).free n incoming.lacks) ∙ incoming.content

    as_many : length G ≡ length (pages st)
    as_many = (shown ts slots page (pages st) fs fine.sound).many

    lawful_graph : first_fault (length G) n bs ts ≡ Ok tt
    lawful_graph = ap (λ m. first_fault m n bs ts) as_many ∙ incoming.lawful

    same_tally : tally p 1024 ≡ tally (wanted_with ts standing n bs) 1024
    same_tally = tally_same p (wanted_with ts standing n bs) 1024 (λ m low high. asked m ∙ ap (λ b. b || standing m) (own m low high) ∙ or_turn (eqb m n || links_to ts (cells_of bs) m) (standing m))

    module _
        (agree : Agree page' slots') (most : Most page 1024) (most' : Most page' 1024) (long : length slots ≡ 1025) (none : get_or slots 0 0 ≡ 0) (wide : c ≤ length fs)
        (full : length bs ≡ 512) (byte : (j : ℕ) → get_or bs j 0 < 256)
        (i : ℕ) (b : Brought picks pages ts p a c n (cells_of bs) needs i page slots fs pol st slots' fs' st') (fits : tally p 1024 ≤ a)
      where
        at : (0 < n) × (n ≤ length (pages st))
        at = is_there (pages st) n bs incoming.content

        mine : (m : ℕ) → links_to ts (cells_of bs) m ≡ true → (0 < m) × ((m ≤ 1024) × (p m ≡ true))
        mine m e =
            let r = linked_within ts (length (pages st)) n bs m incoming.lawful e in
            let h : m ≤ 1024 = omega (arith, r.1, few st) in
            (r.0, (h, asked m ∙ or_left (holds needs.words m) (standing m) (own m r.0 h ∙ or_right (eqb m n) _ e)))

        theirs : (j : ℕ) (f : Frame) → HasAt fs j f → (m : ℕ) → 0 < m → m ≤ 1024 → links_to ts (long_cells ts page f) m ≡ true → holds f.needs.words m ≡ true
        theirs j f h m low high e = fine.needs j f h m low high ∙ or_right (eqb m f.page) _ e

        keeps : Keeps ts slots' page' (pages st') fs' G
        keeps = opened_keeps ts picks pages slots page p a c n bs needs i fs pol st slots' page' fs' st' b fine.sound agree long none theirs incoming.lacks at.0 at.1 incoming.content full byte mine

        long_new : long_bytes ts page' b.new ≡ bs
        long_new = new_long ts picks pages slots page p a c n bs needs i fs pol st slots' page' fs' st' b fine.sound agree long none theirs incoming.lacks at.0 at.1 incoming.content full byte mine wide

        has_new : HasAt fs' i b.new
        has_new = there ts picks pages slots page p a c n bs needs i fs pol st slots' page' fs' st' b fine.sound agree long none theirs incoming.lacks at.0 at.1 incoming.content full byte mine wide

        len : length (pages st') ≡ length (pages st)
        len = same_length ts picks pages slots page p a c n bs needs i fs pol st slots' page' fs' st' b fine.sound agree long none theirs incoming.lacks at.0 at.1 incoming.content full byte mine

        every : {P : Frame → Type 0} → P b.new → ((j : ℕ) (f : Frame) → HasAt fs j f → long_bytes ts page' f ≡ long_bytes ts page f → P f) → (j : ℕ) (f : Frame) → HasAt fs' j f → P f
        every = each_frame ts picks pages slots page p a c n bs needs i fs pol st slots' page' fs' st' b fine.sound agree long none theirs incoming.lacks at.0 at.1 incoming.content full byte mine

        cells_new : long_cells ts page' b.new ≡ cells_of bs
        cells_new = sym (cells_long ts page' b.new most') ∙ ap cells_of long_new

        fine_new : Fine ts slots' page' (pages st') fs' known told c
        fine_new = record {
          sound = keeps.sound;
          counted = fine.counted ∙ sym len;
          policy = fine.policy;
          lawful = every {P = λ f. first_fault (length (pages st')) f.page (long_bytes ts page' f) ts ≡ Ok tt}
              (ap (λ m. first_fault m b.new.page (long_bytes ts page' b.new) ts) len ∙ ap (λ m. first_fault (length (pages st)) m (long_bytes ts page' b.new) ts) b.is.page ∙ ap (λ x. first_fault (length (pages st)) n x ts) long_new ∙ incoming.lawful)
              (λ j f h e. ap (λ m. first_fault m f.page (long_bytes ts page' f) ts) len ∙ ap (λ x. first_fault (length (pages st)) f.page x ts) e ∙ fine.lawful j f h);
          needs = every {P = λ f. (m : ℕ) → 0 < m → m ≤ 1024 → holds f.needs.words m ≡ (eqb m f.page || links_to ts (long_cells ts page' f) m)}
              (λ m low high. ap (λ (x : PageSet). holds x.words m) b.is.needs ∙ own m low high ∙ ap (λ k. eqb m k || links_to ts (cells_of bs) m) (sym b.is.page) ∙ ap (λ (xs : List ℕ). eqb m b.new.page || links_to ts xs m) (sym cells_new))
              (λ j f h e m low high. fine.needs j f h m low high ∙ ap (λ (xs : List ℕ). eqb m f.page || links_to ts xs m) (sym (cells_long ts page f most) ∙ ap cells_of (sym e) ∙ cells_long ts page' f most'));
        }

        pub entered : Opened ts a slots page (pages st) fs slots' page' (pages st') fs' known told c standing n (Ok i)
        entered = record {
          fine = fine_new;
          stands = keeps.stands;
          answer = ap (λ (o : Option Frame). Ok (held_bytes ts page' o)) has_new ∙ ap (λ (x : List ℕ). Ok x) long_new ∙ sym (opening_granted ts a G standing n bs in_graph lawful_graph (omega (arith, same_tally, fits)));
          there = (b.new, (has_new, b.is.page));
          kept = λ m e h. b.stay m (or_left (p m) _ (asked m ∙ or_right (holds needs.words m) (standing m) e)) h;
        }

    -- it was refused, and nothing changed
    pub turned_away : a < tally p 1024 → Opened ts a slots page (pages st) fs slots page (pages st) fs known told c standing n (Err (fault NoAddresses 4 (on_page n)))
    turned_away many = record {
      fine = fine;
      stands = refl;
      answer = sym (opening_refused ts a G standing n bs in_graph lawful_graph (omega (arith, same_tally, many)));
      there = tt;
      kept = λ _ _ _. refl;
    }

pub whole_bytes : (ps : List Page) (n : ℕ) (bs : List ℕ) → (page_at ps n).content ≡ bytes bs → Whole (page_at ps n).content → length bs ≡ 512
whole_bytes ps n bs e w = subst (λ (x : Content). Whole x) e w
