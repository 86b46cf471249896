-- Where the pages of two joined stores lie. Assumes nothing.
use Rattle.std.proofs.Common.{◌≡◌, ℕ, zero, suc, ◌+◌, ◌-◌, ◌<◌, ◌≤◌, min, Bool, true, false, cond, ◌&&◌, eqb, leb, List, ◌++◌, length, get_or, take, set, Some, None, Ok, Err, Option, sym, refl, ap, ◌∙◌, subst, ⊎_elim, arith, length-append, length-take}
use lib.Seq.{take-set-lt}
use Rattle.std.proofs.lemmas.List.{get_or-take, get_or_append_left, get_or-append_right, set-append_left, set-append_right}
use Rattle.std.proofs.lemmas.Bool.{eqb-true, leb-true, leb-false, cases_Bool}
use Rattle.fault.specs.declared.kinds.Cause.TheVariants.{PageClosed}
use Rattle.fault.specs.declared.kinds.Fault.{Fault}
use Rattle.fault.specs.Faults.{on_page, fault}
use Rattle.fault.specs.Refusals.{Checked, ◌>>◌, ◌else◌, ◌otherwise◌}
use Rattle.store.specs.Pages.{Content, bytes, marked, Page, no_page, page_at, is_page}
use Rattle.store.specs.Rules.{readable, held_by, read_answer, read_buffer, open_at, write_answer, written, write_pages, start_answer}
use Rattle.store.proofs.Steps.{is_page_lem, page_bounds, read_inside, write_inside, read_refused, held_refused, write_refused, kept_refused}
use Rattle.split.specs.Joined.{joined}
use Rattle.split.specs.Sides.{side_at, side_of, side_answer, of_side, in_side, told_of, closed_at}
use Rattle.split.specs.declared.Side.{Side}
use Rattle.split.specs.declared.Side.TheVariants.{First, Second}

pub length_joined : (ps qs : List Page) → length (joined ps qs) ≡ min 1024 (length ps + length qs)
length_joined ps qs = simp (length-take, length-append)

-- a page of the first store, and its place set anew
module _ (ps qs : List Page) (i : ℕ) (top : i < 1024) (l : i < length ps) where
  at_left : get_or (joined ps qs) i no_page ≡ get_or ps i no_page
  at_left = get_or-take 1024 (ps ++ qs) i no_page top ∙ get_or_append_left ps qs no_page i l

  set_left : (p : Page) → joined (set ps i p) qs ≡ set (joined ps qs) i p
  set_left p = ap (take 1024) (sym (set-append_left ps qs i p l)) ∙ take-set-lt 1024 (ps ++ qs) i p top

-- the same in the second
module _ (ps qs : List Page) (i : ℕ) (top : i < 1024) (l : length ps ≤ i) where
  at_right : get_or (joined ps qs) i no_page ≡ get_or qs (i - length ps) no_page
  at_right = get_or-take 1024 (ps ++ qs) i no_page top ∙ get_or-append_right ps qs (length ps) i no_page refl l

  set_right : (p : Page) → joined ps (set qs (i - length ps) p) ≡ set (joined ps qs) i p
  set_right p = ap (take 1024) (sym (set-append_right ps qs (length ps) i p refl l)) ∙ take-set-lt 1024 (ps ++ qs) i p top

rewritten : List ℕ → Page → Page
rewritten bs p = record { content = bytes bs; writable = p.writable }

-- page n of both is a page of side s
record Lies (ps qs : List Page) (n : ℕ) (s : Side) : Type 0 where
  inside : is_page (of_side s ps qs) (in_side s) ≡ true
  page : page_at (joined ps qs) n ≡ page_at (of_side s ps qs) (in_side s)
  changed : (bs : List ℕ)
      → joined (of_side s (written ps (in_side s) bs) ps) (of_side s qs (written qs (in_side s) bs)) ≡ written (joined ps qs) n bs

lies_left : (ps qs : List Page) (n : ℕ) → 0 < n → n ≤ 1024 → n ≤ length ps → Lies ps qs n (First n)
unfolding rewritten
lies_left ps qs zero z top l = absurd (omega arith)
lies_left ps qs (suc i) z top l =
    let e = at_left ps qs i (omega arith) (omega arith) in
    record {
      inside = is_page_lem ps (suc i) z l;
      page = e;
      changed = λ bs.
          set_left ps qs i (omega arith) (omega arith) (rewritten bs (get_or ps i no_page))
          ∙ ap (λ (p : Page). set (joined ps qs) i (rewritten bs p)) (sym e);
    }

lies_right : (ps qs : List Page) (n : ℕ) → length ps < n → n ≤ 1024 → n ≤ length ps + length qs → Lies ps qs n (Second (n - length ps))
unfolding rewritten
lies_right ps qs zero l top r = absurd (omega arith)
lies_right ps qs (suc i) l top r =
    let m : suc (i - length ps) ≡ suc i - length ps = omega arith in
    let e = at_right ps qs i (omega arith) (omega arith) in
    subst (λ k. Lies ps qs (suc i) (Second k)) m
    (record {
      inside = is_page_lem qs (suc (i - length ps)) (omega arith) (omega arith);
      page = e;
      changed = λ bs.
          set_right ps qs i (omega arith) (omega arith) (rewritten bs (get_or qs (i - length ps) no_page))
          ∙ ap (λ (p : Page). set (joined ps qs) i (rewritten bs p)) (sym e);
    })

lies : (ps qs : List Page) (n : ℕ) → is_page (joined ps qs) n ≡ true → Lies ps qs n (side_at (length ps) n)
lies ps qs n h =
    let b = page_bounds (joined ps qs) n h in
    let e = length_joined ps qs in
    ⊎_elim
    (λ (t : leb n (length ps) ≡ true).
    let l = leb-true n (length ps) t in
    subst (λ b. Lies ps qs n (cond b (First n) (Second (n - length ps)))) (sym t) (lies_left ps qs n (omega arith) (omega arith) (omega arith)))
    (λ (t : leb n (length ps) ≡ false).
    let l = leb-false n (length ps) t in
    subst (λ b. Lies ps qs n (cond b (First n) (Second (n - length ps)))) (sym t) (lies_right ps qs n (omega arith) (omega arith) (omega arith)))
    (cases_Bool (leb n (length ps)))

-- what the search for a side says

side_found : (ps qs : List Page) (n : ℕ) (s : Side) → side_of ps qs n ≡ Some s → (is_page (joined ps qs) n ≡ true) × (s ≡ side_at (length ps) n)
side_found ps qs n s h =
    ⊎_elim
    (λ (t : is_page (joined ps qs) n ≡ true). let e = ap (λ b. cond b (Some (side_at (length ps) n)) None) t in (t, (cc)))
    (λ (t : is_page (joined ps qs) n ≡ false). let e = ap (λ b. cond b (Some (side_at (length ps) n)) None) t in absurd (let z : ◌≡◌ {A = ℕ} 0 1 = cc in omega arith))
    (cases_Bool (is_page (joined ps qs) n))

found_parts : {X : Type 0} (a : Bool) (o : Option X) (f g : Fault) (x : X) → ◌>>◌ (a else f) (o otherwise g) ≡ Ok x → (a ≡ true) × (o ≡ Some x)
found_parts true (Some y) f g x h = (refl, (cc))
found_parts true None f g x h = absurd (let z : ◌≡◌ {A = ℕ} 0 1 = cc in omega arith)
found_parts false o f g x h = absurd (let z : ◌≡◌ {A = ℕ} 0 1 = cc in omega arith)

same_refusal : {X Y : Type 0} (a b : Bool) (x : X) (y : Y) (f g e : Fault)
    → ◌>>◌ (a else f) (cond b (Some x) None otherwise g) ≡ Err e → ◌>>◌ (a else f) (◌>>◌ (b else g) (Ok y)) ≡ Err e
same_refusal true true x y f g e h = absurd (let z : ◌≡◌ {A = ℕ} 0 1 = cc in omega arith)
same_refusal true false x y f g e h = cc
same_refusal false b x y f g e h = cc

module _ (ps qs : List Page) (n len : ℕ) where
  side_granted : (s : Side) → side_answer ps qs n len ≡ Ok s → (len ≡ 512) × (side_of ps qs n ≡ Some s)
  side_granted s h = let t = found_parts (eqb len 512) (side_of ps qs n) _ _ s h in (eqb-true len 512 t.0, t.1)

  -- a side is refused as the beginning of a page is
  side_refused : (e : Fault) → Err e ≡ side_answer ps qs n len → start_answer 7 (joined ps qs) n len ≡ Err e
  side_refused e h = same_refusal (eqb len 512) (is_page (joined ps qs) n) (side_at (length ps) n) _ _ _ e (sym h)

-- what a part says of a page is what is said of it in both

told_readable : (p : Content) (m n : ℕ) → told_of n (readable p m) ≡ readable p n
told_readable (bytes bs) m n = refl
told_readable (marked cause layer) m n = refl

pub same_joined : (ps' ps qs' qs : List Page) → ps' ≡ ps → qs' ≡ qs → joined ps' qs' ≡ joined ps qs
same_joined ps' ps qs' qs e f = ap (λ x. joined x qs') e ∙ ap (joined ps) f

same_side : (s : Side) (ps' ps qs' qs : List Page) → ps' ≡ ps → qs' ≡ qs → of_side s ps' qs' ≡ of_side s ps qs
same_side (First m) ps' ps qs' qs e f = e
same_side (Second m) ps' ps qs' qs e f = f

cond_first : (b : Bool) (xs ps qs : List Page) → joined (cond b xs ps) qs ≡ cond b (joined xs qs) (joined ps qs)
cond_first true xs ps qs = refl
cond_first false xs ps qs = refl

cond_second : (b : Bool) (xs ps qs : List Page) → joined ps (cond b xs qs) ≡ cond b (joined ps xs) (joined ps qs)
cond_second true xs ps qs = refl
cond_second false xs ps qs = refl

kept_side : (ps qs : List Page) (s : Side) (bs : List ℕ)
    → joined (of_side s (write_pages ps (in_side s) bs) ps) (of_side s qs (write_pages qs (in_side s) bs))
    ≡ cond (eqb (length bs) 512 && open_at (of_side s ps qs) (in_side s)) (joined (of_side s (written ps (in_side s) bs) ps) (of_side s qs (written qs (in_side s) bs))) (joined ps qs)
kept_side ps qs (First m) bs = cond_first (eqb (length bs) 512 && open_at ps m) (written ps m bs) ps qs
kept_side ps qs (Second m) bs = cond_second (eqb (length bs) 512 && open_at qs m) (written qs m bs) ps qs

same_written : (s : Side) (bs : List ℕ) (ps' ps qs' qs : List Page) → ps' ≡ ps → qs' ≡ qs
    → joined (of_side s (write_pages ps' (in_side s) bs) ps') (of_side s qs' (write_pages qs' (in_side s) bs))
    ≡ joined (of_side s (write_pages ps (in_side s) bs) ps) (of_side s qs (write_pages qs (in_side s) bs))
same_written (First m) bs ps' ps qs' qs e f = same_joined _ _ qs' qs (ap (λ x. write_pages x m bs) e) f
same_written (Second m) bs ps' ps qs' qs e f = same_joined ps' ps _ _ e (ap (λ x. write_pages x m bs) f)

closed_or_open : (b : Bool) (n : ℕ) (f : Fault) → closed_at n (b else f) ≡ (b else fault PageClosed 7 (on_page n))
closed_or_open true n f = refl
closed_or_open false n f = refl

module _ (ps qs : List Page) (n : ℕ) (s : Side) (h : side_of ps qs n ≡ Some s) where
  there : is_page (joined ps qs) n ≡ true
  there = (side_found ps qs n s h).0

  lies_on : Lies ps qs n s
  lies_on = subst (Lies ps qs n) (sym (side_found ps qs n s h).1) (lies ps qs n there)

  open_on : open_at (of_side s ps qs) (in_side s) ≡ open_at (joined ps qs) n
  open_on = ap (λ (p : Page). p.writable) (sym lies_on.page)

  read_on : (layer len : ℕ) → len ≡ 512 → told_of n (read_answer layer (of_side s ps qs) (in_side s) len) ≡ read_answer 7 (joined ps qs) n len
  read_on layer len e =
      ap (told_of n) (read_inside layer (of_side s ps qs) (in_side s) len e lies_on.inside)
      ∙ told_readable (page_at (of_side s ps qs) (in_side s)).content (in_side s) n
      ∙ sym (read_inside 7 (joined ps qs) n len e there ∙ ap (λ (p : Page). readable p.content n) lies_on.page)

  held_on : (bs : List ℕ) → read_buffer (of_side s ps qs) (in_side s) bs ≡ read_buffer (joined ps qs) n bs
  held_on bs = ap (λ (p : Page). cond (eqb (length bs) 512) (held_by p.content bs) bs) (sym lies_on.page)

  write_on : (layer len : ℕ) → len ≡ 512 → closed_at n (write_answer layer (of_side s ps qs) (in_side s) len) ≡ write_answer 7 (joined ps qs) n len
  write_on layer len e =
      ap (closed_at n) (write_inside layer (of_side s ps qs) (in_side s) len e lies_on.inside)
      ∙ closed_or_open (open_at (of_side s ps qs) (in_side s)) n _
      ∙ ap (λ b. b else fault PageClosed 7 (on_page n)) open_on
      ∙ sym (write_inside 7 (joined ps qs) n len e there)

  written_on : (bs : List ℕ)
      → joined (of_side s (write_pages ps (in_side s) bs) ps) (of_side s qs (write_pages qs (in_side s) bs)) ≡ write_pages (joined ps qs) n bs
  written_on bs =
      kept_side ps qs s bs
      ∙ ap (λ w. cond (eqb (length bs) 512 && open_at (of_side s ps qs) (in_side s)) w (joined ps qs)) (lies_on.changed bs)
      ∙ ap (λ b. cond (eqb (length bs) 512 && b) (written (joined ps qs) n bs) (joined ps qs)) open_on

-- what is refused
module _ (ps qs : List Page) (n : ℕ) (e : Fault) where
  pub read_amiss : (len : ℕ) → Err e ≡ side_answer ps qs n len → Err e ≡ read_answer 7 (joined ps qs) n len
  read_amiss len h = sym (read_refused 7 (joined ps qs) n len e (side_refused ps qs n len e h))

  pub held_amiss : (old : List ℕ) → Err e ≡ side_answer ps qs n (length old) → old ≡ read_buffer (joined ps qs) n old
  held_amiss old h = sym (held_refused 7 (joined ps qs) n old e (side_refused ps qs n (length old) e h))

  pub write_amiss : (len : ℕ) → Err e ≡ side_answer ps qs n len → Err e ≡ write_answer 7 (joined ps qs) n len
  write_amiss len h = sym (write_refused 7 (joined ps qs) n len e (side_refused ps qs n len e h))

  pub kept_amiss : (bs : List ℕ) (ps' qs' : List Page) → ps' ≡ ps → qs' ≡ qs → Err e ≡ side_answer ps qs n (length bs) → joined ps' qs' ≡ write_pages (joined ps qs) n bs
  kept_amiss bs ps' qs' f g h = same_joined ps' ps qs' qs f g ∙ sym (kept_refused 7 (joined ps qs) n bs e (side_refused ps qs n (length bs) e h))

-- what is said of both, from what a part said; the parts were asked before, and mean what they meant
module _ (ps' ps qs' qs : List Page) (e : ps' ≡ ps) (f : qs' ≡ qs) (n : ℕ) (s : Side) where
  pub open_by : (b : Bool) → Some s ≡ side_of ps qs n → b ≡ open_at (of_side s ps' qs') (in_side s) → b ≡ open_at (joined ps qs) n
  open_by b h is = is ∙ ap (λ w. open_at w (in_side s)) (same_side s ps' ps qs' qs e f) ∙ open_on ps qs n s (sym h)

  pub read_by : (layer len : ℕ) (r told : Checked (Unit {0})) → Ok s ≡ side_answer ps qs n len
      → r ≡ read_answer layer (of_side s ps' qs') (in_side s) len → told ≡ told_of n r → told ≡ read_answer 7 (joined ps qs) n len
  read_by layer len r told h is t =
      let g = side_granted ps qs n len s (sym h) in
      t ∙ ap (told_of n) (is ∙ ap (λ w. read_answer layer w (in_side s) len) (same_side s ps' ps qs' qs e f)) ∙ read_on ps qs n s g.1 layer len g.0

  pub held_by_lem : (old new : List ℕ) → Ok s ≡ side_answer ps qs n (length old)
      → new ≡ read_buffer (of_side s ps' qs') (in_side s) old → new ≡ read_buffer (joined ps qs) n old
  held_by_lem old new h is =
      let g = side_granted ps qs n (length old) s (sym h) in
      is ∙ ap (λ w. read_buffer w (in_side s) old) (same_side s ps' ps qs' qs e f) ∙ held_on ps qs n s g.1 old

  pub write_by : (layer len : ℕ) (r told : Checked (Unit {0})) → Ok s ≡ side_answer ps qs n len
      → r ≡ write_answer layer (of_side s ps' qs') (in_side s) len → told ≡ closed_at n r → told ≡ write_answer 7 (joined ps qs) n len
  write_by layer len r told h is t =
      let g = side_granted ps qs n len s (sym h) in
      t ∙ ap (closed_at n) (is ∙ ap (λ w. write_answer layer w (in_side s) len) (same_side s ps' ps qs' qs e f)) ∙ write_on ps qs n s g.1 layer len g.0

  pub written_by : (bs : List ℕ) (xs ys : List Page) → Ok s ≡ side_answer ps qs n (length bs)
      → xs ≡ of_side s (write_pages ps' (in_side s) bs) ps' → ys ≡ of_side s qs' (write_pages qs' (in_side s) bs) → joined xs ys ≡ write_pages (joined ps qs) n bs
  written_by bs xs ys h one other =
      let g = side_granted ps qs n (length bs) s (sym h) in
      same_joined xs _ ys _ one other ∙ same_written s bs ps' ps qs' qs e f ∙ written_on ps qs n s g.1 bs
