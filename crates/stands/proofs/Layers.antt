-- Frames over the store's pages, and how they change, over any reading of frames. Assumes nothing.
use Rattle.std.proofs.Common.{◌≡◌, ℕ, zero, suc, ◌<◌, ◌≤◌, Bool, true, false, cond, ◌⊎◌, List, [], ◌∷◌, length, get_or, set, Some, None, Option, sym, refl, ap, ◌∙◌, subst, inl, inr, arith}
use Rattle.std.proofs.lemmas.List.{get_or-set_same, get_or-set_other, get_or_past}
use Rattle.std.proofs.lemmas.Bool.{both_ways, cases_eq, cases_lt}
use Rattle.store.specs.Pages.{bytes, Page, page_at}
use Rattle.store.specs.Rules.{written}
use Rattle.frame.specs.declared.frame.Frame.{Frame}
use Rattle.stands.specs.Frames.{is_readable, HasAt, Lacks, lay, overlay, stored, saved, Laid}
use Rattle.stands.proofs.Pages.{over, length_written, written_same, written_other, same_pages, over_same, written_again}

pub none_some : {X : Type 0} (o : Option X) (p : X) → o ≡ None → o ≡ Some p → ⊥
none_some o p a b = let z : ◌≡◌ {A = ℕ} 0 1 = cc in omega arith

pub some_inj : {X : Type 0} (o : Option X) (p q : X) → o ≡ Some p → o ≡ Some q → p ≡ q
some_inj o p q a b = cc

no_none : {P : Type 0} (q : Frame) → None ≡ Some q → P
no_none q e = absurd (none_some None q refl e)

pub page_is : (o : Option Frame) (p q : Frame) → o ≡ Some p → o ≡ Some q → p.page ≡ q.page
page_is o p q a b = ap (λ (x : Frame). x.page) (some_inj o p q a b)

abbrev Apart : List (Option Frame) → Type 0
Apart fs = (i j : ℕ) (f g : Frame) → HasAt fs i f → HasAt fs j g → f.page ≡ g.page → i ≡ j

tail_apart : (f : Option Frame) (fs : List (Option Frame)) → Apart (f ∷ fs) → Apart fs
tail_apart f fs a i j p q x y e = let s : suc i ≡ suc j = a (suc i) (suc j) p q x y e in omega arith

lacks_cons : (f : Option Frame) (fs : List (Option Frame)) (n : ℕ) → ((p : Frame) → f ≡ Some p → p.page ≡ n → ⊥) → Lacks fs n → Lacks (f ∷ fs) n
lacks_cons f fs n here l zero p h e = here p h e
lacks_cons f fs n here l (suc i) p h e = l i p h e

abbrev Holds : List (Option Frame) → ℕ → ℕ → Type 0
Holds fs i n = (p : Frame) × (HasAt fs i p × (p.page ≡ n))

-- some frame has n, or none does
abbrev Found : List (Option Frame) → ℕ → Type 0
Found fs n = ((i : ℕ) × Holds fs i n) ⊎ Lacks fs n

holder_at : (p : Frame) (fs : List (Option Frame)) (n : ℕ) → Lacks fs n → (p.page ≡ n) ⊎ (p.page ≡ n → ⊥) → Found (Some p ∷ fs) n
holder_at p fs n l (inl e) = inl (zero, (p, (refl, e)))
holder_at p fs n l (inr d) = inr (lacks_cons (Some p) fs n (λ q h e. d (page_is (Some p) p q refl h ∙ e)) l)

holder_more : (f : Option Frame) (fs : List (Option Frame)) (n : ℕ) → Found fs n → Found (f ∷ fs) n
holder_more f fs n (inl (i, r)) = inl (suc i, r)
holder_more None fs n (inr l) = inr (lacks_cons None fs n (λ q h e. none_some None q refl h) l)
holder_more (Some p) fs n (inr l) = holder_at p fs n l (cases_eq p.page n)

pub holder : (fs : List (Option Frame)) (n : ℕ) → Found fs n
holder [] n = inr (λ i p h e. none_some None p refl h)
holder (f ∷ fs) n = holder_more f fs n (holder fs n)

abbrev Way : List (Option Frame) → ℕ → Option Frame → ℕ → Frame → Type 0
Way fs i x j p = ((j ≡ i) × (x ≡ Some p)) ⊎ ((j ≡ i → ⊥) × HasAt fs j p)

-- what stands at j after a write at i
pub at_set : (fs : List (Option Frame)) (i j : ℕ) (x : Option Frame) (p : Frame) → HasAt (set fs i x) j p → Way fs i x j p
at_set [] i j x p h = absurd (none_some None p refl h)
at_set (f ∷ fs) zero zero x p h = inl (refl, h)
at_set (f ∷ fs) zero (suc j) x p h = inr ((λ e. omega (arith, e)), h)
at_set (f ∷ fs) (suc i) zero x p h = inr ((λ e. omega (arith, e)), h)
at_set (f ∷ fs) (suc i) (suc j) x p h = at_more (at_set fs i j x p h)
  where
    at_more : ((j ≡ i) × (x ≡ Some p)) ⊎ ((j ≡ i → ⊥) × HasAt fs j p) → ((suc j ≡ suc i) × (x ≡ Some p)) ⊎ ((suc j ≡ suc i → ⊥) × HasAt fs j p)
    at_more (inl (e, y)) = inl (ap suc e, y)
    at_more (inr (d, y)) = inr ((λ e. d (omega (arith, e))), y)

set_at : (fs : List (Option Frame)) (i j : ℕ) (x : Option Frame) (p : Frame) → (j ≡ i → ⊥) → HasAt fs j p → HasAt (set fs i x) j p
set_at fs i j x p d h = get_or-set_other fs i j x None d ∙ h

lacks_back : (fs : List (Option Frame)) (i : ℕ) (x : Option Frame) (k : ℕ) → ((q : Frame) → HasAt fs i q → q.page ≡ k → ⊥) → Lacks (set fs i x) k → Lacks fs k
lacks_back fs i x k here l j q h e = back_by (cases_eq j i)
  where
    back_by : (j ≡ i) ⊎ (j ≡ i → ⊥) → ⊥
    back_by (inl a) = here q (rw (← a) h) e
    back_by (inr d) = l j q (set_at fs i j x q d h) e

pub has_within : (fs : List (Option Frame)) (i : ℕ) (p : Frame) → HasAt fs i p → i < length fs
has_within fs i p h = by_lt (cases_lt i (length fs))
  where
    by_lt : (i < length fs) ⊎ (length fs ≤ i) → i < length fs
    by_lt (inl a) = a
    by_lt (inr b) = absurd (none_some (get_or fs i None) p (get_or_past fs i None b) h)

has_set : (fs : List (Option Frame)) (i : ℕ) (p q : Frame) → HasAt fs i p → HasAt (set fs i (Some q)) i q
has_set fs i p q h = get_or-set_same fs i (Some q) None (has_within fs i p h)

module _ (dec : Frame → List ℕ) where
  length_lay : (f : Option Frame) (ps : List Page) → length (lay dec f ps) ≡ length ps
  length_lay None ps = refl
  length_lay (Some p) ps = length_written ps p.page (dec p)

  pub length_overlay : (ps : List Page) (fs : List (Option Frame)) → length (overlay dec ps fs) ≡ length ps
  length_overlay ps [] = refl
  length_overlay ps (f ∷ fs) = length_lay f (overlay dec ps fs) ∙ length_overlay ps fs

  pub miss : (ps : List Page) (fs : List (Option Frame)) (n : ℕ) → Lacks fs n → page_at (overlay dec ps fs) n ≡ page_at ps n
  miss ps [] n l = refl
  miss ps (None ∷ fs) n l = miss ps fs n (λ i. l (suc i))
  miss ps (Some p ∷ fs) n l = written_other (overlay dec ps fs) p.page n (dec p) (λ e. l zero p refl (sym e)) ∙ miss ps fs n (λ i. l (suc i))

  -- the first frame's page is in no other
  head_lacks : (q : Frame) (fs : List (Option Frame)) → Apart (Some q ∷ fs) → Lacks fs q.page
  head_lacks q fs a i p h e = let s : suc i ≡ zero = a (suc i) zero p q h refl e in omega arith

  pub hit : (ps : List Page) (fs : List (Option Frame)) (i : ℕ) (p : Frame) → Apart fs → HasAt fs i p → 0 < p.page → p.page ≤ length ps → page_at (overlay dec ps fs) p.page ≡ over (dec p) (page_at ps p.page)
  hit ps [] i p a h z w = absurd (none_some None p refl h)
  hit ps (None ∷ fs) zero p a h z w = absurd (none_some None p refl h)
  hit ps (Some q ∷ fs) zero p a h z w =
      let e : q ≡ p = some_inj (Some q) q p refl h in
      let z' : 0 < q.page = rw e z in
      let w' : q.page ≤ length (overlay dec ps fs) = rw (length_overlay ps fs, e) w in
      let d : page_at (overlay dec ps (Some q ∷ fs)) q.page ≡ over (dec q) (page_at ps q.page) =
      written_same (overlay dec ps fs) q.page (dec q) z' w' ∙ ap (over (dec q)) (miss ps fs q.page (head_lacks q fs a)) in
      subst (λ (r : Frame). page_at (overlay dec ps (Some q ∷ fs)) r.page ≡ over (dec r) (page_at ps r.page)) e d
  hit ps (None ∷ fs) (suc i) p a h z w = hit ps fs i p (tail_apart None fs a) h z w
  hit ps (Some q ∷ fs) (suc i) p a h z w =
      let other : p.page ≡ q.page → ⊥ = λ e. (let s : suc i ≡ zero = a (suc i) zero p q h refl e in omega arith) in
      written_other (overlay dec ps fs) q.page p.page (dec q) other ∙ hit ps fs i p (tail_apart (Some q) fs a) h z w

  -- what a list over the frames and the store has to be
  pub record Shows (ps : List Page) (fs : List (Option Frame)) (gs : List Page) : Type 0 where
    pub len : length gs ≡ length ps
    pub held : (i : ℕ) (p : Frame) → HasAt fs i p → page_at gs p.page ≡ over (dec p) (page_at ps p.page)
    pub free : (k : ℕ) → Lacks fs k → page_at gs k ≡ page_at ps k

  pub shows : (ps : List Page) (fs : List (Option Frame)) → Laid dec ps fs → Shows ps fs (overlay dec ps fs)
  shows ps fs s = record {
    len = length_overlay ps fs;
    held = λ i p h. hit ps fs i p s.apart h (s.within i p h).0 (s.within i p h).1;
    free = λ k l. miss ps fs k l;
  }

  same_at : {ps : List Page} {fs : List (Option Frame)} {gs hs : List Page} → Shows ps fs gs → Shows ps fs hs → (k : ℕ) → Found fs k → page_at gs k ≡ page_at hs k
  same_at {gs = gs} {hs = hs} a b k (inl (i, r)) =
      let x = a.held i r.0 r.1.0 in
      let y = b.held i r.0 r.1.0 in
      let P : ℕ → Type 0 = λ m. page_at gs m ≡ page_at hs m in
      subst P r.1.1 (x ∙ sym y)
  same_at a b k (inr l) = a.free k l ∙ sym (b.free k l)

  -- only one list does
  pub only : {ps : List Page} {fs : List (Option Frame)} {gs hs : List Page} → Shows ps fs gs → Shows ps fs hs → gs ≡ hs
  only {ps} {fs} {gs} {hs} a b = same_pages gs hs (a.len ∙ sym b.len) (λ k. same_at a b k (holder fs k))

  -- one frame is as it is in Laid
  pub record Fits (ps : List Page) (f : Frame) : Type 0 where
    pub within : (0 < f.page) × (f.page ≤ length ps)
    pub reads : is_readable (page_at ps f.page).content ≡ true
    pub clean : f.changed ≡ false → (page_at ps f.page).content ≡ bytes (dec f)
    pub dirty : f.changed ≡ true → (page_at ps f.page).writable ≡ true

  pub fits_of : (ps : List Page) (fs : List (Option Frame)) → Laid dec ps fs → (i : ℕ) (f : Frame) → HasAt fs i f → Fits ps f
  fits_of ps fs s i f h = record { within = s.within i f h; reads = s.reads i f h; clean = s.clean i f h; dirty = s.dirty i f h }

  pub laid_by : (ps : List Page) (fs : List (Option Frame)) → Apart fs → ((i : ℕ) (f : Frame) → HasAt fs i f → Fits ps f) → Laid dec ps fs
  laid_by ps fs a t = record { apart = a; within = λ i f h. (t i f h).within; reads = λ i f h. (t i f h).reads; clean = λ i f h. (t i f h).clean; dirty = λ i f h. (t i f h).dirty }

  -- the same page in two stores
  pub fits_moved : (ps qs : List Page) (f : Frame) → length qs ≡ length ps → page_at qs f.page ≡ page_at ps f.page → Fits ps f → Fits qs f
  fits_moved ps qs f l e t = record {
    within = (t.within.0, (let w = t.within.1 in omega (arith, l)));
    reads = ap (λ (p : Page). is_readable p.content) e ∙ t.reads;
    clean = λ c. ap (λ (p : Page). p.content) e ∙ t.clean c;
    dirty = λ c. ap (λ (p : Page). p.writable) e ∙ t.dirty c;
  }

  laid_set : (ps qs : List Page) (fs : List (Option Frame)) (i : ℕ) (x : Option Frame) → Laid dec ps fs →
      ((q : Frame) → x ≡ Some q → (j : ℕ) (p : Frame) → (j ≡ i → ⊥) → HasAt fs j p → p.page ≡ q.page → ⊥) →
      ((q : Frame) → x ≡ Some q → Fits qs q) →
      ((j : ℕ) (p : Frame) → (j ≡ i → ⊥) → HasAt fs j p → Fits qs p) →
      Laid dec qs (set fs i x)
  laid_set ps qs fs i x s new inside old =
      laid_by qs (set fs i x) (λ j k p q hp hq e. apart_by j k p q e (at_set fs i j x p hp) (at_set fs i k x q hq)) (λ j p h. fits_by j p (at_set fs i j x p h))
    where
      apart_by : (j k : ℕ) (p q : Frame) → p.page ≡ q.page → Way fs i x j p → Way fs i x k q → j ≡ k
      apart_by j k p q e (inl (a, b)) (inl (c, d)) = a ∙ sym c
      apart_by j k p q e (inl (a, b)) (inr (c, d)) = absurd (new p b k q c d (sym e))
      apart_by j k p q e (inr (a, b)) (inl (c, d)) = absurd (new q d j p a b e)
      apart_by j k p q e (inr (a, b)) (inr (c, d)) = s.apart j k p q b d e

      fits_by : (j : ℕ) (p : Frame) → Way fs i x j p → Fits qs p
      fits_by j p (inl (a, b)) = inside p b
      fits_by j p (inr (a, b)) = old j p a b

  shows_set : (qs gs : List Page) (fs : List (Option Frame)) (i : ℕ) (x : Option Frame) → length gs ≡ length qs →
      ((q : Frame) → x ≡ Some q → page_at gs q.page ≡ over (dec q) (page_at qs q.page)) →
      ((j : ℕ) (p : Frame) → (j ≡ i → ⊥) → HasAt fs j p → page_at gs p.page ≡ over (dec p) (page_at qs p.page)) →
      ((k : ℕ) → Lacks (set fs i x) k → page_at gs k ≡ page_at qs k) →
      Shows qs (set fs i x) gs
  shows_set qs gs fs i x len new old free = record { len = len; held = λ j p h. held_by_lem j p (at_set fs i j x p h); free = free }
    where
      held_by_lem : (j : ℕ) (p : Frame) → Way fs i x j p → page_at gs p.page ≡ over (dec p) (page_at qs p.page)
      held_by_lem j p (inl (a, b)) = new p b
      held_by_lem j p (inr (a, b)) = old j p a b

  -- what holds of a state and the next
  pub record Next (ps : List Page) (fs : List (Option Frame)) (gs : List Page) : Type 0 where
    pub fine : Laid dec ps fs
    pub shown : overlay dec ps fs ≡ gs

  next : (ps : List Page) (fs : List (Option Frame)) (gs : List Page) → Laid dec ps fs → Shows ps fs gs → Next ps fs gs
  next ps fs gs s t = record { fine = s; shown = only (shows ps fs s) t }

  -- the frame i has p
  module _ (ps : List Page) (fs : List (Option Frame)) (i : ℕ) (p : Frame) (s : Laid dec ps fs) (h : HasAt fs i p) where
    abbrev qs : List Page
    qs = written ps p.page (dec p)

    abbrev gs : List Page
    gs = overlay dec ps fs

    t : Shows ps fs gs
    t = shows ps fs s

    len' : length qs ≡ length ps
    len' = length_written ps p.page (dec p)

    here : page_at qs p.page ≡ over (dec p) (page_at ps p.page)
    here = written_same ps p.page (dec p) (s.within i p h).0 (s.within i p h).1

    other : (j : ℕ) (q : Frame) → (j ≡ i → ⊥) → HasAt fs j q → page_at qs q.page ≡ page_at ps q.page
    other j q d b = written_other ps p.page q.page (dec p) (λ e. d (s.apart j i q p b h e))

    still_free : (x : Option Frame) (k : ℕ) → (k ≡ p.page → ⊥) → Lacks (set fs i x) k → page_at gs k ≡ page_at ps k
    still_free x k d l = t.free k (lacks_back fs i x k (λ q b e. d (sym e ∙ sym (page_is (get_or fs i None) p q h b))) l)

    free_by : (x : Option Frame) (k : ℕ) → Lacks (set fs i x) k → (k ≡ p.page) ⊎ (k ≡ p.page → ⊥) → page_at gs k ≡ page_at qs k
    free_by x k l (inl e) = rw e (t.held i p h ∙ sym here)
    free_by x k l (inr d) = still_free x k d l ∙ sym (written_other ps p.page k (dec p) d)

    others_fit : (j : ℕ) (q : Frame) → (j ≡ i → ⊥) → HasAt fs j q → Fits qs q
    others_fit j q d b = fits_moved ps qs q len' (other j q d b) (fits_of ps fs s j q b)

    others_held : (j : ℕ) (q : Frame) → (j ≡ i → ⊥) → HasAt fs j q → page_at gs q.page ≡ over (dec q) (page_at qs q.page)
    others_held j q d b = t.held j q b ∙ ap (over (dec q)) (sym (other j q d b))

    -- it is emptied, and p written back
    pub evicted : Next qs (set fs i None) gs
    evicted =
        next qs (set fs i None) gs
        (laid_set ps qs fs i None s (λ q e. no_none q e) (λ q e. no_none q e) others_fit)
        (shows_set qs gs fs i None (t.len ∙ sym len') (λ q e. no_none q e) others_held (λ k l. free_by None k l (cases_eq k p.page)))

    -- an unchanged page is written back by doing nothing
    pub unwritten : p.changed ≡ false → qs ≡ ps
    unwritten c = written_again ps p.page (dec p) (s.clean i p h c)

    pub written_if : (b : Bool) → p.changed ≡ b → cond b qs ps ≡ qs
    written_if true e = refl
    written_if false e = sym (unwritten e)

    module _ (q : Frame) (en : q.page ≡ p.page) where
      same_page : (r : Frame) → Some q ≡ Some r → r.page ≡ p.page
      same_page r e = page_is (Some q) r q e refl ∙ en

      new_apart : (r : Frame) → Some q ≡ Some r → (j : ℕ) (o : Frame) → (j ≡ i → ⊥) → HasAt fs j o → o.page ≡ r.page → ⊥
      new_apart r e j o d b c = d (s.apart j i o p b h (c ∙ same_page r e))

      in_range : (0 < q.page) × (q.page ≤ length ps)
      in_range = rw en (s.within i p h)

      -- p is written back, and stays with the same bytes
      pub kept_after : q.changed ≡ false → dec q ≡ dec p → Next qs (set fs i (Some q)) gs
      kept_after c v =
          next qs (set fs i (Some q)) gs
          (laid_set ps qs fs i (Some q) s new_apart (λ r e. subst (Fits qs) (some_inj (Some q) q r refl e) new_fits) others_fit)
          (shows_set qs gs fs i (Some q) (t.len ∙ sym len') (λ r e. subst (λ (o : Frame). page_at gs o.page ≡ over (dec o) (page_at qs o.page)) (some_inj (Some q) q r refl e) new_held) others_held (λ k l. free_by (Some q) k l (cases_eq k p.page)))
        where
          at_q : page_at qs q.page ≡ over (dec q) (page_at ps p.page)
          at_q = ap (λ k. page_at qs k) en ∙ here ∙ ap (λ (bs : List ℕ). over bs (page_at ps p.page)) (sym v)

          new_fits : Fits qs q
          new_fits = record {
            within = (in_range.0, (let w = in_range.1 in omega (arith, len')));
            reads = ap (λ (o : Page). is_readable o.content) at_q;
            clean = λ _. ap (λ (o : Page). o.content) at_q;
            dirty = λ d. absurd (both_ways _ c d);
          }

          new_held : page_at gs q.page ≡ over (dec q) (page_at qs q.page)
          new_held = ap (λ k. page_at gs k) en ∙ t.held i p h ∙ sym (ap (λ (bs : List ℕ). over bs (page_at ps p.page)) v) ∙ sym (ap (over (dec q)) at_q)

      -- the page changes
      pub edited : q.changed ≡ true → (page_at ps p.page).writable ≡ true → Next ps (set fs i (Some q)) (written gs p.page (dec q))
      edited c w =
          next ps (set fs i (Some q)) es
          (laid_set ps ps fs i (Some q) s new_apart (λ r e. subst (Fits ps) (some_inj (Some q) q r refl e) new_fits) (λ j r d b. fits_of ps fs s j r b))
          (shows_set ps es fs i (Some q) (length_written gs p.page (dec q) ∙ t.len) (λ r e. subst (λ (o : Frame). page_at es o.page ≡ over (dec o) (page_at ps o.page)) (some_inj (Some q) q r refl e) new_held) old_held (λ k l. free_new k l (cases_eq k p.page)))
        where
          es : List Page
          es = written gs p.page (dec q)

          at_p : page_at es p.page ≡ over (dec q) (page_at ps p.page)
          at_p =
              written_same gs p.page (dec q) (s.within i p h).0 (let l = (s.within i p h).1 in omega (arith, t.len))
              ∙ ap (over (dec q)) (t.held i p h)

          new_fits : Fits ps q
          new_fits = record {
            within = in_range;
            reads = rw en (s.reads i p h);
            clean = λ d. absurd (both_ways _ d c);
            dirty = λ _. rw en w;
          }

          new_held : page_at es q.page ≡ over (dec q) (page_at ps q.page)
          new_held = ap (λ k. page_at es k) en ∙ at_p ∙ ap (λ k. over (dec q) (page_at ps k)) (sym en)

          old_held : (j : ℕ) (r : Frame) → (j ≡ i → ⊥) → HasAt fs j r → page_at es r.page ≡ over (dec r) (page_at ps r.page)
          old_held j r d b = written_other gs p.page r.page (dec q) (λ e. d (s.apart j i r p b h e)) ∙ t.held j r b

          free_new : (k : ℕ) → Lacks (set fs i (Some q)) k → (k ≡ p.page) ⊎ (k ≡ p.page → ⊥) → page_at es k ≡ page_at ps k
          free_new k l (inl e) = absurd (l i q (has_set fs i p q h) (en ∙ sym e))
          free_new k l (inr d) = written_other gs p.page k (dec q) d ∙ still_free (Some q) k d l

  -- a page that no frame has comes into the empty frame i
  pub brought_in : (ps : List Page) (fs : List (Option Frame)) (i : ℕ) (q : Frame) → Laid dec ps fs → get_or fs i None ≡ None → Lacks fs q.page → Fits ps q → (page_at ps q.page).content ≡ bytes (dec q) → Next ps (set fs i (Some q)) (overlay dec ps fs)
  brought_in ps fs i q s h l w v =
      next ps (set fs i (Some q)) gs
      (laid_set ps ps fs i (Some q) s (λ r e j p d b c. l j p b (c ∙ page_is (Some q) r q e refl)) (λ r e. subst (Fits ps) (some_inj (Some q) q r refl e) w) (λ j p d b. fits_of ps fs s j p b))
      (shows_set ps gs fs i (Some q) u.len (λ r e. subst (λ (o : Frame). page_at gs o.page ≡ over (dec o) (page_at ps o.page)) (some_inj (Some q) q r refl e) (u.free q.page l ∙ sym (over_same (dec q) (page_at ps q.page) v))) (λ j p d b. u.held j p b) (λ k m. u.free k (lacks_back fs i (Some q) k (λ p b e. none_some (get_or fs i None) p h b) m)))
    where
      gs : List Page
      gs = overlay dec ps fs

      u : Shows ps fs (overlay dec ps fs)
      u = shows ps fs s

  -- where every frame is clean the store has it all
  pub all_clean : (ps : List Page) (fs : List (Option Frame)) → Laid dec ps fs → ((i : ℕ) (p : Frame) → HasAt fs i p → p.changed ≡ false) → overlay dec ps fs ≡ ps
  all_clean ps fs s c =
      only (shows ps fs s) record { len = refl; held = λ i p h. sym (over_same (dec p) (page_at ps p.page) (s.clean i p h (c i p h))); free = λ k l. refl }

  stored_if : (p : Frame) (ps : List Page) (b : Bool) → p.changed ≡ b → (b ≡ false → (page_at ps p.page).content ≡ bytes (dec p)) → cond b (written ps p.page (dec p)) ps ≡ written ps p.page (dec p)
  stored_if p ps true e c = refl
  stored_if p ps false e c = sym (written_again ps p.page (dec p) (c refl))

  -- all frames written back, one after another
  pub saved_is : (ps : List Page) (fs : List (Option Frame)) → Apart fs → ((i : ℕ) (p : Frame) → HasAt fs i p → p.changed ≡ false → (page_at ps p.page).content ≡ bytes (dec p)) → saved dec ps fs ≡ overlay dec ps fs
  saved_is ps [] a c = refl
  saved_is ps (None ∷ fs) a c = saved_is ps fs (tail_apart None fs a) (λ i. c (suc i))
  saved_is ps (Some p ∷ fs) a c =
      ap (stored dec (Some p)) (saved_is ps fs (tail_apart (Some p) fs a) (λ i. c (suc i)))
      ∙ stored_if p (overlay dec ps fs) p.changed refl (λ e. ap (λ (o : Page). o.content) (miss ps fs p.page (head_lacks p fs a)) ∙ c zero p refl e)

-- two readings that agree on the frames
module _ (dec eye : Frame → List ℕ) where
  pub same_overlay : (ps : List Page) (fs : List (Option Frame)) → ((i : ℕ) (f : Frame) → HasAt fs i f → eye f ≡ dec f) → overlay eye ps fs ≡ overlay dec ps fs
  same_overlay ps [] a = refl
  same_overlay ps (None ∷ fs) a = same_overlay ps fs (λ i. a (suc i))
  same_overlay ps (Some f ∷ fs) a = ap (λ qs. written qs f.page (eye f)) (same_overlay ps fs (λ i. a (suc i))) ∙ ap (λ bs. written (overlay dec ps fs) f.page bs) (a zero f refl)

  pub same_laid : (ps : List Page) (fs : List (Option Frame)) → ((i : ℕ) (f : Frame) → HasAt fs i f → eye f ≡ dec f) → Laid dec ps fs → Laid eye ps fs
  same_laid ps fs a s = record {
    apart = s.apart;
    within = s.within;
    reads = s.reads;
    clean = λ i f h c. s.clean i f h c ∙ ap bytes (sym (a i f h));
    dirty = s.dirty;
  }
