-- Frames are saved and stay. Assumes nothing.
use Rattle.std.proofs.Common.{◌≡◌, ℕ, ◌+◌, ◌<◌, ◌≤◌, true, false, cond, ◌||◌, eqb, List, length, get_or, set, is_some, Some, None, Ok, Option, sym, refl, ap, ◌∙◌, subst, ⊎_elim, arith, get_or-set_other, below_more}
use Rattle.std.proofs.lemmas.List.{get_or-set_same}
use Rattle.std.proofs.lemmas.Bool.{both_ways, cases_lt}
use Rattle.pageset.specs.Sets.{holds}
use Rattle.pageset.specs.declared.PageSet.{PageSet}
use Rattle.page.specs.Form.{first_fault}
use Rattle.page.specs.Walks.{links_to, page_of}
use Rattle.page.specs.declared.descriptor.Descriptor.{Descriptor}
use Rattle.frame.specs.Links.{unswizzled}
use Rattle.frame.specs.declared.frame.Frame.{Frame}
use Rattle.store.specs.Pages.{Page}
use Rattle.store.specs.Rules.{written}
use Rattle.stands.specs.Frames.{HasAt, Is, long_cells, long_bytes, stands_for}
use Rattle.stands.proofs.Courses.{shown}
use Rattle.stands.proofs.Stands.{each_some, empties, saves, clean_all}
use Rattle.stands.proofs.Layers.{some_inj, none_some, has_within}
use Rattle.pool.specs.Needs.{needed, Covers}
use Rattle.pool.specs.Leaving.{Empty, put_back}
use Rattle.pool.specs.Meaning.{Fine}
use Rattle.pool.specs.Saving.{Clean, CleanAt, Cleaned, Saved}
use Rattle.pool.proofs.Frames.{needed_set}
use Rattle.pool.proofs.Opens.{needed_at, set_none_sub, back_is}

-- an occupied frame is one of the first
pub held_below : (fs : List (Option Frame)) (c k : ℕ) (f : Frame) → ((j : ℕ) → c ≤ j → Empty fs j) → HasAt fs k f → k < c
held_below fs c k f spare h =
    ⊎_elim
    (λ (l : k < c). l)
    (λ (l : c ≤ k). absurd (both_ways (is_some (get_or fs k None)) (spare k l) (ap (λ (x : Option Frame). is_some x) h)))
    (cases_lt k c)

pub covers_same : (slot : List ℕ) (fs : List (Option Frame)) (k : ℕ) (f g : Frame) → HasAt fs k f → g.needs ≡ f.needs → Covers slot (needed fs) → Covers slot (needed (set fs k (Some g)))
covers_same slot fs k f g h e covered n low high d =
    covered n low high (⊎_elim
    (λ (a : holds g.needs.words n ≡ true). needed_at fs k n f h (ap (λ (x : PageSet). holds x.words n) (sym e) ∙ a))
    (λ (a : needed fs n ≡ true). a)
    (needed_set fs k (Some g) n d))

pub clean_some : (fs : List (Option Frame)) (k : ℕ) (f g : Frame) → HasAt fs k f → Is g f.page false f.cells → g.needs ≡ f.needs → Clean fs (set fs k (Some g)) k
clean_some fs k f g h is needs = record {
  others = λ j d. get_or-set_other fs k j (Some g) None d;
  none = λ e. absurd (none_some (get_or fs k None) f e h);
  some = λ x hx. (let e = some_inj (get_or fs k None) f x h hx in
      (g, (refl, (record { page = is.page ∙ ap (λ (y : Frame). y.page) e; changed = is.changed; cells = is.cells ∙ ap (λ (y : Frame). y.cells) e }, needs ∙ ap (λ (y : Frame). y.needs) e))));
}

pub clean_none : (fs : List (Option Frame)) (k : ℕ) → get_or fs k None ≡ None → Clean fs fs k
clean_none fs k e = record {
  others = λ j d. refl;
  none = λ _. refl;
  some = λ f h. absurd (none_some (get_or fs k None) f e h);
}

-- what is left when one frame was saved
module _ (ts : List Descriptor) (slots page : List ℕ) (known told count : ℕ) where
  pub record One (ps : List Page) (fs : List (Option Frame)) (ps' : List Page) (fs' : List (Option Frame)) (k : ℕ) : Type 0 where
    pub fine : Fine ts slots page ps' fs' known told count
    pub stands : stands_for ts page ps' fs' ≡ stands_for ts page ps fs
    pub clean : (f : Frame) → HasAt fs' k f → f.changed ≡ false

  module _ (ps : List Page) (fs : List (Option Frame)) (k : ℕ) (fine : Fine ts slots page ps fs known told count) where
    saved_frame : (f g : Frame) → HasAt fs k f → Is g f.page false f.cells → g.needs ≡ f.needs → One ps fs (cond f.changed (written ps f.page (long_bytes ts page f)) ps) (set fs k (Some g)) k
    saved_frame f g h is needs =
        let qs = cond f.changed (written ps f.page (long_bytes ts page f)) ps in
        let keeps = saves ts slots page ps fs k f g fine.sound h is in
        let len : length qs ≡ length ps = sym (shown ts slots page qs (set fs k (Some g)) keeps.sound).many ∙ ap length keeps.stands ∙ (shown ts slots page ps fs fine.sound).many in
        let at : HasAt (set fs k (Some g)) k g = get_or-set_same fs k (Some g) None (has_within fs k f h) in
        record {
          fine = record {
            sound = keeps.sound;
            counted = fine.counted ∙ sym len;
            policy = fine.policy;
            lawful = each_some {P = λ x. first_fault (length qs) x.page (long_bytes ts page x) ts ≡ Ok tt} fs k g
                (ap (λ m. first_fault m g.page (long_bytes ts page g) ts) len ∙ ap (λ m. first_fault (length ps) m (long_bytes ts page g) ts) is.page ∙ ap (λ (xs : List ℕ). first_fault (length ps) f.page (page_of (unswizzled ts page xs)) ts) is.cells ∙ fine.lawful k f h)
                (λ j x hx. ap (λ m. first_fault m x.page (long_bytes ts page x) ts) len ∙ fine.lawful j x hx);
            needs = each_some {P = λ x. (m : ℕ) → 0 < m → m ≤ 1024 → holds x.needs.words m ≡ (eqb m x.page || links_to ts (long_cells ts page x) m)} fs k g
                (λ m low high. ap (λ (x : PageSet). holds x.words m) needs ∙ fine.needs k f h m low high ∙ ap (λ n. eqb m n || links_to ts (long_cells ts page f) m) (sym is.page) ∙ ap (λ (xs : List ℕ). eqb m g.page || links_to ts (unswizzled ts page xs) m) (sym is.cells))
                (λ j x hx. fine.needs j x hx);
          };
          stands = keeps.stands;
          clean = λ x hx. ap (λ (y : Frame). y.changed) (some_inj (get_or (set fs k (Some g)) k None) x g hx at) ∙ is.changed;
        }

    pub saved_one : (ps' : List Page) (fs' : List (Option Frame)) (o : Option Frame) → get_or fs k None ≡ o → Clean fs fs' k → ps' ≡ put_back ts page o ps → One ps fs ps' fs' k
    saved_one ps' fs' None e c n =
        let same = c.none e in
        subst (λ (x : List Page). One ps fs x fs' k) (sym n)
        (subst (λ (x : List (Option Frame)). One ps fs ps x k) (sym same)
        (record { fine = fine; stands = refl; clean = λ x hx. absurd (none_some (get_or fs k None) x e hx) }))
    saved_one ps' fs' (Some f) e c n =
        let w = c.some f e in
        subst (λ (x : List Page). One ps fs x fs' k) (sym (n ∙ back_is ts slots page ps fs k f fine.sound e))
        (subst (λ (x : List (Option Frame)). One ps fs (cond f.changed (written ps f.page (long_bytes ts page f)) ps) x k) (sym w.1.0)
        (saved_frame f w.0 e w.1.1.0 w.1.1.1))

-- when all were saved
pub all_saved : (ts : List Descriptor) (slots page : List ℕ) (known told count : ℕ) (ps : List Page) (fs : List (Option Frame)) (ps' : List Page) (fs' : List (Option Frame))
    → Fine ts slots page ps' fs' known told count → stands_for ts page ps' fs' ≡ stands_for ts page ps fs → ((j : ℕ) (f : Frame) → HasAt fs' j f → f.changed ≡ false) → Saved ts slots page ps fs ps' fs' known told count
all_saved ts slots page known told count ps fs ps' fs' fine stands clean = record {
  fine = fine;
  stands = stands;
  store = sym (clean_all ts slots page ps' fs' fine.sound clean) ∙ stands;
}

-- frames before k stay clean, and frame k is clean now
pub clean_more : (fs fs' : List (Option Frame)) (k : ℕ) → Clean fs fs' k → ((j : ℕ) → j < k → (f : Frame) → HasAt fs j f → f.changed ≡ false) → ((f : Frame) → HasAt fs' k f → f.changed ≡ false) → (j : ℕ) → j < k + 1 → (f : Frame) → HasAt fs' j f → f.changed ≡ false
clean_more fs fs' k c before here =
    below_more (λ j. (f : Frame) → HasAt fs' j f → f.changed ≡ false) k
    (λ j l f h. before j l f (sym (c.others j (λ e. omega (arith, e, l))) ∙ h))
    here

-- the frames before k are those at the beginning, each unchanged now, and the others are as they were
pub record Cleaning (fs fs' : List (Option Frame)) (k : ℕ) : Type 0 where
  pub done : (j : ℕ) → j < k → CleanAt fs fs' j
  pub left : (j : ℕ) → k ≤ j → get_or fs' j None ≡ get_or fs j None

clean_kept : (fs gs hs : List (Option Frame)) (j : ℕ) → get_or hs j None ≡ get_or gs j None → CleanAt fs gs j → CleanAt fs hs j
clean_kept fs gs hs j e c = record {
  none = λ h. e ∙ c.none h;
  some = λ f h. (let w = c.some f h in (w.0, (e ∙ w.1.0, w.1.1)));
}

clean_now : (fs gs hs : List (Option Frame)) (k : ℕ) → get_or gs k None ≡ get_or fs k None → Clean gs hs k → CleanAt fs hs k
clean_now fs gs hs k e s = record {
  none = λ h. ap (λ (x : List (Option Frame)). get_or x k None) (s.none (e ∙ h)) ∙ e ∙ h;
  some = λ f h. (let w = s.some f (e ∙ h) in
      (w.0, (ap (λ (x : List (Option Frame)). get_or x k None) w.1.0 ∙ get_or-set_same gs k (Some w.0) None (has_within gs k f (e ∙ h)), w.1.1)));
}

-- one frame more
pub cleaning_more : (fs gs hs : List (Option Frame)) (k : ℕ) → Cleaning fs gs k → Clean gs hs k → Cleaning fs hs (k + 1)
cleaning_more fs gs hs k c s = record {
  done = below_more (λ j. CleanAt fs hs j) k
      (λ j l. clean_kept fs gs hs j (s.others j (λ e. omega (arith, e, l))) (c.done j l))
      (clean_now fs gs hs k (c.left k (omega arith)) s);
  left = λ j l. s.others j (λ e. omega (arith, e, l)) ∙ c.left j (omega arith);
}

pub cleaning_over : (fs gs : List (Option Frame)) (k : ℕ) → length fs ≤ k → Cleaning fs gs k → Cleaned fs gs
cleaning_over fs gs k h c j = ⊎_elim
    (λ (l : j < k). c.done j l)
    (λ (l : k ≤ j). record {
      none = λ e. c.left j l ∙ e;
      some = λ f e. absurd (omega (arith, has_within fs j f e));
    })
    (cases_lt j k)

-- a pool's tie stays where the store means the same pages and the policy was told the same number
pub tied_same : (ts : List Descriptor) (slots page : List ℕ) (ps ps' : List Page) (fs : List (Option Frame)) (known told told' count : ℕ) → ps' ≡ ps → told' ≡ told → Fine ts slots page ps fs known told count → Fine ts slots page ps' fs known told' count
tied_same ts slots page ps ps' fs known told told' count same kept fine =
    subst (λ (x : List Page). Fine ts slots page x fs known told' count) (sym same)
    (subst (λ (x : ℕ). Fine ts slots page ps fs known x count) (sym kept) fine)

-- and where a frame is given up
pub tied_less : (ts : List Descriptor) (slots page : List ℕ) (ps ps' : List Page) (fs : List (Option Frame)) (known told told' count v : ℕ) (f : Frame) → HasAt fs v f → ps' ≡ put_back ts page (Some f) ps → told' ≡ told → Fine ts slots page ps fs known told count → Fine ts slots page ps' (set fs v None) known told' count
tied_less ts slots page ps ps' fs known told told' count v f h noted kept fine =
    let qs = cond f.changed (written ps f.page (long_bytes ts page f)) ps in
    let keeps = empties ts slots page ps fs v f fine.sound h in
    let len : length qs ≡ length ps = sym (shown ts slots page qs (set fs v None) keeps.sound).many ∙ ap length keeps.stands ∙ (shown ts slots page ps fs fine.sound).many in
    tied_same ts slots page qs ps' (set fs v None) known told told' count (noted ∙ back_is ts slots page ps fs v f fine.sound h) kept (record {
      sound = keeps.sound;
      counted = fine.counted ∙ sym len;
      policy = fine.policy;
      lawful = λ j g hg. ap (λ m. first_fault m g.page (long_bytes ts page g) ts) len ∙ fine.lawful j g (set_none_sub fs v j g hg);
      needs = λ j g hg. fine.needs j g (set_none_sub fs v j g hg);
    })
