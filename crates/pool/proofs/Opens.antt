-- What a page that comes into a frame leaves as it was: what is stood for. Assumes nothing.
use Rattle.std.proofs.Common.{◌≡◌, ℕ, zero, suc, ◌*◌, ◌<◌, ◌≤◌, Bool, true, false, cond, List, [], ◌∷◌, length, get_or, set, is_some, Some, None, Option, sym, refl, ap, ◌∙◌, subst, ⊎_elim, arith}
use Rattle.std.proofs.lemmas.List.{get_or_past, get_or-set_same, length-set}
use Rattle.std.proofs.lemmas.Bool.{cases_lt, both_ways, or_left, or_right, ltb-true}
use Rattle.pageset.specs.Sets.{holds}
use Rattle.pageset.specs.declared.PageSet.{PageSet}
use Rattle.address.specs.Pairing.{Agree, Most}
use Rattle.page.specs.Walks.{cells_of, links_to}
use Rattle.page.specs.declared.descriptor.Descriptor.{Descriptor}
use Rattle.frame.specs.Laws.{Served, Settled}
use Rattle.frame.specs.Links.{unswizzled}
use Rattle.frame.specs.declared.frame.Frame.{Frame}
use Rattle.frame.proofs.Packs.{length_joined, cells_back}
use Rattle.store.specs.Pages.{bytes, Page, page_at}
use Rattle.store.specs.Rules.{written}
use Rattle.store.proofs.Steps.{kept_open}
use Rattle.stands.specs.Frames as over
use Rattle.stands.specs.Frames.{HasAt, long_cells, long_bytes, stands_for, Sound}
use Rattle.stands.specs.Laws.{Keeps}
use Rattle.stands.proofs.Cells.{length_unswizzled, long_fits}
use Rattle.stands.proofs.Stands.{each_some, empties, provides, brings}
use Rattle.stands.proofs.Courses.{shown, settles}
use Rattle.pool.specs.Needs.{asks, needed, whole}
use Rattle.pool.specs.Leaving.{put_back, Went}
use Rattle.pool.specs.Bringing.{Brought}

some_of : (o : Option Frame) → is_some o ≡ true → (f : Frame) × (o ≡ Some f)
some_of None e = absurd (both_ways false refl e)
some_of (Some f) e = (f, refl)

none_of : (o : Option Frame) → is_some o ≡ false → o ≡ None
none_of None e = refl
none_of (Some f) e = absurd (both_ways true e refl)

pub needed_at : (fs : List (Option Frame)) (j m : ℕ) (f : Frame) → HasAt fs j f → holds f.needs.words m ≡ true → needed fs m ≡ true
needed_at [] j m f h e = let z : ◌≡◌ {A = ℕ} 0 1 = cc in absurd (omega arith)
needed_at (x ∷ fs) zero m f h e = or_left (asks x m) (needed fs m) (ap (λ (y : Option Frame). asks y m) h ∙ e)
needed_at (x ∷ fs) (suc j) m f h e = or_right (asks x m) (needed fs m) (needed_at fs j m f h e)

pub set_none_sub : (fs : List (Option Frame)) (v j : ℕ) (f : Frame) → HasAt (set fs v None) j f → HasAt fs j f
set_none_sub [] v j f h = h
set_none_sub (x ∷ fs) zero zero f h = let z : ◌≡◌ {A = ℕ} 0 1 = cc in absurd (omega arith)
set_none_sub (x ∷ fs) zero (suc j) f h = h
set_none_sub (x ∷ fs) (suc v) zero f h = h
set_none_sub (x ∷ fs) (suc v) (suc j) f h = set_none_sub fs v j f h

bytes_same : (xs ys : List ℕ) → bytes xs ≡ bytes ys → xs ≡ ys
bytes_same xs ys e = cc

when_changed : (b : Bool) (xs ys zs : List Page) → (b ≡ true → xs ≡ ys) → cond b xs zs ≡ cond b ys zs
when_changed true xs ys zs h = h refl
when_changed false xs ys zs h = refl

module _ (ts : List Descriptor) where
  pub length_long : (page : List ℕ) (f : Frame) → length (long_bytes ts page f) ≡ 512
  length_long page f = length_joined (unswizzled ts page f.cells) ∙ ap (λ m. 8 * m) (length_unswizzled ts page f.cells ∙ f.whole)

  pub cells_long : (page : List ℕ) (f : Frame) → Most page 1024 → cells_of (long_bytes ts page f) ≡ long_cells ts page f
  cells_long page f h = cells_back (unswizzled ts page f.cells) (length_unswizzled ts page f.cells ∙ f.whole) (long_fits ts page f.cells h f.small)

  -- a changed page may be written
  pub back_is : (slots page : List ℕ) (ps : List Page) (fs : List (Option Frame)) (v : ℕ) (f : Frame) → Sound ts slots page ps fs → HasAt fs v f → put_back ts page (Some f) ps ≡ cond f.changed (written ps f.page (long_bytes ts page f)) ps
  back_is slots page ps fs v f s h =
      when_changed f.changed _ _ ps (λ e. kept_open ps f.page (long_bytes ts page f) (length_long page f) (s.laid.dirty v f h e))

  module _ {Pol Sto : Type 0} (picks : Pol → List Bool → ℕ → Pol → Type 0) (pages : Sto → List Page) (slots page : List ℕ) (p : ℕ → Bool) (a c : ℕ) where
    went_keeps : (vs : List ℕ) (fs : List (Option Frame)) (pol : Pol) (st : Sto) (gs : List (Option Frame)) (last : Pol) (end : Sto)
        → Sound ts slots page (pages st) fs → Went picks pages ts page p a c fs pol st vs gs last end → Keeps ts slots page (pages end) gs (stands_for ts page (pages st) fs)
    went_keeps [] fs pol st gs last end s w =
        let G = stands_for ts page (pages st) fs in
        subst (λ (x : Sto). Keeps ts slots page (pages x) gs G) (sym w.1.1)
        (subst (λ (x : List (Option Frame)). Keeps ts slots page (pages st) x G) (sym w.0) (record { sound = s; stands = refl }))
    went_keeps (v ∷ vs) fs pol st gs last end s w =
        let l = w.1.1.0 in
        let st' = w.1.0 in
        let o = some_of (get_or fs v None) l.occupied in
        let e = empties ts slots page (pages st) fs v o.0 s o.1 in
        let is : pages st' ≡ cond o.0.changed (written (pages st) o.0.page (long_bytes ts page o.0)) (pages st) = l.noted ∙ ap (λ (x : Option Frame). put_back ts page x (pages st)) o.1 ∙ back_is slots page (pages st) fs v o.0 s o.1 in
        let k = subst (λ (x : List Page). Keeps ts slots page x (set fs v None) (stands_for ts page (pages st) fs)) (sym is) e in
        let more = went_keeps vs (set fs v None) w.0 st' gs last end k.sound w.1.1.1 in
        record { sound = more.sound; stands = more.stands ∙ k.stands }

    pub went_sub : (vs : List ℕ) (fs : List (Option Frame)) (pol : Pol) (st : Sto) (gs : List (Option Frame)) (last : Pol) (end : Sto)
        → Went picks pages ts page p a c fs pol st vs gs last end → (j : ℕ) (f : Frame) → HasAt gs j f → HasAt fs j f
    went_sub [] fs pol st gs last end w j f h = ap (λ (x : List (Option Frame)). get_or x j None) (sym w.0) ∙ h
    went_sub (v ∷ vs) fs pol st gs last end w j f h = set_none_sub fs v j f (went_sub vs (set fs v None) w.0 w.1.0 gs last end w.1.1.1 j f h)

    went_length : (vs : List ℕ) (fs : List (Option Frame)) (pol : Pol) (st : Sto) (gs : List (Option Frame)) (last : Pol) (end : Sto)
        → Went picks pages ts page p a c fs pol st vs gs last end → length gs ≡ length fs
    went_length [] fs pol st gs last end w = ap length w.0
    went_length (v ∷ vs) fs pol st gs last end w = went_length vs (set fs v None) w.0 w.1.0 gs last end w.1.1.1 ∙ length-set fs v None

    module _
        (n : ℕ) (bs : List ℕ) (needs : PageSet) (i : ℕ) (fs : List (Option Frame)) (pol : Pol) (st : Sto) (slots' page' : List ℕ) (fs' : List (Option Frame)) (st' : Sto)
        (b : Brought picks pages ts p a c n (cells_of bs) needs i page slots fs pol st slots' fs' st')
        (sound : Sound ts slots page (pages st) fs)
        (agree : Agree page' slots')
        (long : length slots ≡ 1025) (none : get_or slots 0 0 ≡ 0)
        (links : (j : ℕ) (f : Frame) → HasAt fs j f → (m : ℕ) → 0 < m → m ≤ 1024 → links_to ts (long_cells ts page f) m ≡ true → holds f.needs.words m ≡ true)
        (lacks : over.Lacks fs n) (low : 0 < n) (high : n ≤ length (pages st))
        (content : (page_at (pages st) n).content ≡ bytes bs) (full : length bs ≡ 512) (byte : (j : ℕ) → get_or bs j 0 < 256)
        (own : (m : ℕ) → links_to ts (cells_of bs) m ≡ true → (0 < m) × ((m ≤ 1024) × (p m ≡ true)))
      where
        left : Keeps ts slots page (pages st') b.rest (stands_for ts page (pages st) fs)
        left = went_keeps b.victims fs pol st b.rest b.last st' sound b.went

        sub : (j : ℕ) (f : Frame) → HasAt b.rest j f → HasAt fs j f
        sub = went_sub b.victims fs pol st b.rest b.last st' b.went

        -- a page with a slot is one of 1 to 1,024
        ranged : (m : ℕ) → 0 < get_or slots m 0 → (0 < m) × (m ≤ 1024)
        ranged m h = (
          ⊎_elim (λ (l : 0 < m). l) (λ (l : m ≤ 0). let z : m ≡ 0 = omega arith in absurd (omega (arith, h, none, ap (λ k. get_or slots k 0) z))) (cases_lt 0 m),
          ⊎_elim (λ (l : m < 1025). omega arith) (λ (l : 1025 ≤ m). absurd (omega (arith, h, get_or_past slots m 0 (omega (arith, long, l))))) (cases_lt m 1025),
        )

        settled : (j : ℕ) (f : Frame) → HasAt b.rest j f → Settled ts slots slots' (long_cells ts page f)
        settled j f h =
            let served = (left.sound.frames j f h).served in
            settles ts slots slots' (long_cells ts page f) (λ m. whole p b.rest m) served long none
            (λ m l. let r = ranged m (served m l) in or_right (p m) (needed b.rest m) (needed_at b.rest j m f h (links j f (sub j f h) m r.0 r.1 l)))
            (λ m _ _ w s. b.stay m w s)

        moved : Keeps ts slots' page' (pages st') b.rest (stands_for ts page (pages st') b.rest)
        moved = provides ts slots page slots' page' (pages st') b.rest left.sound agree settled

        free : over.Lacks b.rest n
        free j f h e = lacks j f (sub j f h) e

        pub same_length : length (pages st') ≡ length (pages st)
        same_length = sym (shown ts slots page (pages st') b.rest left.sound).many ∙ ap length left.stands ∙ (shown ts slots page (pages st) fs sound).many

        same_page : page_at (pages st') n ≡ page_at (pages st) n
        same_page =
            sym ((shown ts slots page (pages st') b.rest left.sound).free n free)
            ∙ ap (λ (x : List Page). page_at x n) left.stands
            ∙ (shown ts slots page (pages st) fs sound).free n lacks

        served_new : Served ts slots' (cells_of bs)
        served_new m l =
            let o = own m l in
            ltb-true 0 (get_or slots' m 0) (b.slots m o.0 o.1.0 ∙ or_left (p m) (needed b.rest m) o.1.1)

        come : Keeps ts slots' page' (pages st') (set b.rest i (Some b.new)) (stands_for ts page' (pages st') b.rest)
        come =
            brings ts slots' page' (pages st') b.rest i n bs b.new moved.sound (none_of (get_or b.rest i None) b.empty) free low (omega (arith, same_length, high)) (ap (λ (x : Page). x.content) same_page ∙ content) full byte served_new
            (record { page = b.is.page; changed = b.is.fresh; cells = b.is.cells })

        pub opened_keeps : Keeps ts slots' page' (pages st') fs' (stands_for ts page (pages st) fs)
        opened_keeps =
            subst (λ (x : List (Option Frame)). Keeps ts slots' page' (pages st') x (stands_for ts page (pages st) fs)) (sym b.frames)
            (record { sound = come.sound; stands = come.stands ∙ moved.stands ∙ left.stands })

        -- the frames that stay hold the pages that they held
        rest_long : (j : ℕ) (f : Frame) → HasAt b.rest j f → long_bytes ts page' f ≡ long_bytes ts page f
        rest_long j f h =
            let x = (shown ts slots' page' (pages st') b.rest moved.sound).held j f h in
            let y = (shown ts slots page (pages st') b.rest left.sound).held j f h in
            bytes_same _ _ (sym x ∙ ap (λ (z : List Page). (page_at z f.page).content) moved.stands ∙ y)

        rest_length : length b.rest ≡ length fs
        rest_length = went_length b.victims fs pol st b.rest b.last st' b.went

        pub there : c ≤ length fs → HasAt fs' i b.new
        there wide = ap (λ (x : List (Option Frame)). get_or x i None) b.frames ∙ get_or-set_same b.rest i (Some b.new) None (omega (arith, rest_length, b.within, wide))

        pub new_long : c ≤ length fs → long_bytes ts page' b.new ≡ bs
        new_long wide =
            let x = (shown ts slots' page' (pages st') fs' opened_keeps.sound).held i b.new (there wide) in
            let y = (shown ts slots page (pages st) fs sound).free n lacks in
            bytes_same _ _ (sym x ∙ ap (λ (m : ℕ). (page_at (stands_for ts page' (pages st') fs') m).content) b.is.page ∙ ap (λ (z : List Page). (page_at z n).content) opened_keeps.stands ∙ ap (λ (z : Page). z.content) y ∙ content)

        -- what holds of the new page and of those that stay holds of all
        pub each_frame : {P : Frame → Type 0} → P b.new → ((j : ℕ) (f : Frame) → HasAt fs j f → long_bytes ts page' f ≡ long_bytes ts page f → P f) → (j : ℕ) (f : Frame) → HasAt fs' j f → P f
        each_frame new others j f h =
            each_some b.rest i b.new new (λ k g has. others k g (sub k g has) (rest_long k g has)) j f (ap (λ (x : List (Option Frame)). get_or x j None) (sym b.frames) ∙ h)
