-- What a call of the layer answers, by what its parts answered. Assumes nothing.
use Rattle.std.proofs.Common.{◌≡◌, ℕ, ◌+◌, ◌-◌, ◌*◌, ◌^◌, ◌<◌, ◌≤◌, Bool, true, false, cond, ◌&&◌, eqb, List, [], length, is_some, is_ok, Some, None, Ok, Err, sym, refl, ap, ◌∙◌, arith}
use Rattle.std.proofs.lemmas.Bool.{eqb-true, le-leb, and_parts, true≢false}
use Rattle.std.specs.Option.{ok_or}
use Rattle.fault.specs.declared.kinds.Cause.TheVariants.{NoPage, WrongLength, CheckDiffers}
use Rattle.fault.specs.declared.kinds.Fault.{Fault}
use Rattle.fault.specs.Faults.{nowhere, on_page, fault}
use Rattle.fault.specs.Refusals.{Checked, ◌>>◌, ◌else◌, if_granted}
use Rattle.page.specs.Cells.{cell_at, put_cell}
use Rattle.page.proofs.Rounds.{put_in, length_put}
use Rattle.store.specs.Pages.{Content, bytes, marked, Page, page_at, is_page, Whole}
use Rattle.store.specs.Rules.{readable, read_answer, held_by, read_buffer, open_at, write_answer, written, write_pages, start_answer}
use Rattle.store.proofs.Steps.{is_page_lem, read_inside, held_inside, write_open, kept_open}
use Rattle.checks.specs.Layer.{check, checked_count, check_page, check_cell, is_readable, compared, checked_page, checked}
use Rattle.checks.specs.Calls.{in_layer, place_answer, for_page, agreeing, blank, verify_answer, ready_answer, put_answer, put_pages}
use Rattle.checks.specs.Seals.{held, renewed}
use Rattle.checks.proofs.Pages.{page_beside, layer_bounds, layer_is, check_above, page_checked}
use Rattle.checks.proofs.Pairs.{length_held, put_both, checked_put}

-- where the check of a page stands

refused_as : {A B : Type 0} (a b : Bool) (f g e : Fault) (x : A) (r : Checked B)
    → ◌>>◌ (a else f) (◌>>◌ (b else g) (Ok x)) ≡ Err e → ◌>>◌ (a else f) (◌>>◌ (b else g) r) ≡ Err e
refused_as true true f g e x r h = absurd (let z : ◌≡◌ {A = ℕ} 0 1 = cc in omega arith)
refused_as true false f g e x r h = cc
refused_as false b f g e x r h = cc

both_tests : {A : Type 0} (a b : Bool) (f g : Fault) (x y : A) → ◌>>◌ (a else f) (◌>>◌ (b else g) (Ok x)) ≡ Ok y → (a ≡ true) × (b ≡ true) × (y ≡ x)
both_tests true true f g x y h = (refl, refl, (cc))
both_tests true false f g x y h = absurd (let z : ◌≡◌ {A = ℕ} 0 1 = cc in omega arith)
both_tests false b f g x y h = absurd (let z : ◌≡◌ {A = ℕ} 0 1 = cc in omega arith)

module _ (ps : List Page) (n len : ℕ) where
  -- a page with no place is refused as any store refuses it
  pub unplaced : (e : Fault) → place_answer ps n len ≡ Err e → start_answer 8 (checked ps) n len ≡ Err e
  unplaced e h =
      ap (λ t. ◌>>◌ (eqb len 512 else fault WrongLength 8 nowhere) (◌>>◌ (t else fault NoPage 8 (on_page n)) (Ok ((n - 1) * 512)))) (layer_is ps n)
      ∙ refused_as (eqb len 512) (in_layer (length ps) n) _ _ e (check_page (length ps) n) _ h

  pub placed : (at : ℕ) → place_answer ps n len ≡ Ok at → (len ≡ 512) × (in_layer (length ps) n ≡ true) × (at ≡ check_page (length ps) n)
  placed at h = let t = both_tests (eqb len 512) (in_layer (length ps) n) _ _ (check_page (length ps) n) at h in (eqb-true len 512 t.0, t.1, t.2)

-- what stands where a test held

pub some_if : {A : Type 0} (b : Bool) (x : A) → is_some (cond b (Some x) None) ≡ b
some_if true x = refl
some_if false x = refl

pub refused_if : {A : Type 0} (b : Bool) (x : A) (f e : Fault) → ok_or (cond b (Some x) None) f ≡ Err e → (b ≡ false) × (e ≡ f)
refused_if true x f e h = absurd (let z : ◌≡◌ {A = ℕ} 0 1 = cc in omega arith)
refused_if false x f e h = (refl, (cc))

pub granted_if : {A : Type 0} (b : Bool) (x y : A) (f : Fault) → ok_or (cond b (Some x) None) f ≡ Ok y → (b ≡ true) × (y ≡ x)
granted_if true x y f h = (refl, (cc))
granted_if false x y f h = absurd (let z : ◌≡◌ {A = ℕ} 0 1 = cc in omega arith)

-- a call before the bytes that it grants

pub refused_first : {A : Type 0} (r : Checked (Unit {0})) (x : A) (e : Fault) → ◌>>◌ r (Ok x) ≡ Err e → r ≡ Err e
refused_first (Ok y) x e h = absurd (let z : ◌≡◌ {A = ℕ} 0 1 = cc in omega arith)
refused_first (Err f) x e h = cc

pub granted_first : {A : Type 0} (r : Checked (Unit {0})) (x y : A) → ◌>>◌ r (Ok x) ≡ Ok y → (r ≡ Ok tt) × (y ≡ x)
granted_first (Ok z) x y h = (refl, (cc))
granted_first (Err f) x y h = absurd (let z : ◌≡◌ {A = ℕ} 0 1 = cc in omega arith)

-- by the contents of a page and its check page

readable_is : (c : Content) (m : ℕ) → is_ok (readable c m) ≡ is_readable c
readable_is (bytes bs) m = refl
readable_is (marked c l) m = refl

held_cond : (n : ℕ) (t : Bool) (bs buf : List ℕ) (x : Unit {0}) → readable (cond t (bytes bs) (marked 12 8)) n ≡ Ok x → held_by (cond t (bytes bs) (marked 12 8)) buf ≡ bs
held_cond n true bs buf x h = refl
held_cond n false bs buf x h = absurd (let z : ◌≡◌ {A = ℕ} 0 1 = cc in omega arith)

module _ (i n at : ℕ) (lt : i < 64) where
  verified : (own sums : Content) → Whole sums
      → ◌>>◌ (readable own n) (◌>>◌ (for_page n (readable sums at)) (agreeing (held_by own blank) (held_by sums blank) i else fault CheckDiffers 8 (on_page n))) ≡ readable (compared i own sums) n
  verified (marked c l) sums w = refl
  verified (bytes bs) (marked c l) w = refl
  verified (bytes bs) (bytes cs) w =
      ap (λ t. (t && eqb (check bs) (cell_at cs i)) else fault CheckDiffers 8 (on_page n)) (le-leb (8 * i + 8) (length cs) (omega arith))
      ∙ elim (eqb (check bs) (cell_at cs i)) as (λ t. ((true && t) else fault CheckDiffers 8 (on_page n)) ≡ readable (cond t (bytes bs) (marked 12 8)) n) [ true ↦ refl | false ↦ refl ]

  same_held : (own sums : Content) (buf : List ℕ) (x : Unit {0}) → readable (compared i own sums) n ≡ Ok x → held_by (compared i own sums) buf ≡ held_by own blank
  same_held (marked c l) sums buf x h = absurd (let z : ◌≡◌ {A = ℕ} 0 1 = cc in omega arith)
  same_held (bytes bs) (marked c l) buf x h = absurd (let z : ◌≡◌ {A = ℕ} 0 1 = cc in omega arith)
  same_held (bytes bs) (bytes cs) buf x h = held_cond n (eqb (check bs) (cell_at cs i)) bs buf x h

not_held : (c : Content) (n : ℕ) (buf : List ℕ) (f : Fault) → readable c n ≡ Err f → held_by c buf ≡ buf
not_held (bytes bs) n buf f h = absurd (let z : ◌≡◌ {A = ℕ} 0 1 = cc in omega arith)
not_held (marked c l) n buf f h = refl

pub held_any : (c : Content) → is_readable c ≡ true → held_by c blank ≡ held_by c []
held_any (bytes bs) r = refl
held_any (marked c l) r = absurd (true≢false (sym r))

-- a page of the layer, and the calls on it
module _ (layer : ℕ) (ps : List Page) (n : ℕ) (inside : in_layer (length ps) n ≡ true) where
  first : 0 < n
  first = (layer_bounds (length ps) n inside).0

  last : n ≤ checked_count (length ps)
  last = (layer_bounds (length ps) n inside).1

  here : is_page ps n ≡ true
  here = let z = first in let l = last in is_page_lem ps n z (omega arith)

  there : is_page ps (check_page (length ps) n) ≡ true
  there = let ab = check_above (length ps) n first last in is_page_lem ps (check_page (length ps) n) (omega arith) ab.1

  pub in_checked : is_page (checked ps) n ≡ true
  in_checked = layer_is ps n ∙ inside

  pub seen : page_at (checked ps) n ≡ checked_page ps n
  seen = page_checked ps n first last

  pub own_answer : read_answer layer ps n 512 ≡ readable (page_at ps n).content n
  own_answer = read_inside layer ps n 512 refl here

  pub sums_answer : read_answer layer ps (check_page (length ps) n) 512 ≡ readable (page_at ps (check_page (length ps) n)).content (check_page (length ps) n)
  sums_answer = read_inside layer ps (check_page (length ps) n) 512 refl there

  pub ready_is : ready_answer layer ps n (check_page (length ps) n) ≡ open_at (checked ps) n
  ready_is =
      ap (λ t. open_at ps n && (open_at ps (check_page (length ps) n) && t)) (ap is_ok sums_answer ∙ readable_is (page_at ps (check_page (length ps) n)).content (check_page (length ps) n))
      ∙ ap (λ (p : Page). p.writable) (sym seen)

  module _ (whole : (k : ℕ) → Whole (page_at ps k).content) where
    pub verify_is : verify_answer layer ps n (check_page (length ps) n) ≡ readable (page_at (checked ps) n).content n
    verify_is =
        let at : ℕ = check_page (length ps) n in
        let test : Checked (Unit {0}) = agreeing (read_buffer ps n blank) (read_buffer ps at blank) (check_cell n) else fault CheckDiffers 8 (on_page n) in
        ap (λ (r : Checked (Unit {0})). ◌>>◌ r (◌>>◌ (for_page n (read_answer layer ps at 512)) test)) own_answer
        ∙ ap (λ (r : Checked (Unit {0})). ◌>>◌ (readable (page_at ps n).content n) (◌>>◌ (for_page n r) test)) sums_answer
        ∙ verified (check_cell n) n at (omega arith) (page_at ps n).content (page_at ps at).content (whole at)
        ∙ ap (λ (p : Page). readable p.content n) (sym seen)

    module _ (buf : List ℕ) (len : length buf ≡ 512) where
      pub read_is : read_answer 8 (checked ps) n (length buf) ≡ verify_answer layer ps n (check_page (length ps) n)
      read_is = read_inside 8 (checked ps) n (length buf) len in_checked ∙ sym verify_is

      pub buffer_refused : (f : Fault) → verify_answer layer ps n (check_page (length ps) n) ≡ Err f → read_buffer (checked ps) n buf ≡ buf
      buffer_refused f h = held_inside (checked ps) n buf len ∙ not_held (page_at (checked ps) n).content n buf f (sym verify_is ∙ h)

      pub buffer_granted : (x : Unit {0}) → verify_answer layer ps n (check_page (length ps) n) ≡ Ok x → read_buffer (checked ps) n buf ≡ read_buffer ps n blank
      buffer_granted x h =
          held_inside (checked ps) n buf len
          ∙ ap (λ (p : Page). held_by p.content buf) seen
          ∙ same_held (check_cell n) n (check_page (length ps) n) (omega arith) (page_at ps n).content (page_at ps (check_page (length ps) n)).content buf x
          (ap (λ (p : Page). readable p.content n) (sym seen) ∙ sym verify_is ∙ h)

  -- an open page of the layer
  module _ (o : open_at (checked ps) n ≡ true) where
    open_parts : (open_at ps n ≡ true) × (open_at ps (check_page (length ps) n) ≡ true) × (is_readable (page_at ps (check_page (length ps) n)).content ≡ true)
    open_parts =
        let at : ℕ = check_page (length ps) n in
        let e : (checked_page ps n).writable ≡ true = ap (λ (p : Page). p.writable) (sym seen) ∙ o in
        let a = and_parts (open_at ps n) (open_at ps at && is_readable (page_at ps at).content) e in
        let b = and_parts (open_at ps at) (is_readable (page_at ps at).content) a.1 in
        (a.0, b.0, b.1)

    module _ (bs : List ℕ) (len : length bs ≡ 512) where
      own_written : write_pages ps n bs ≡ written ps n bs
      own_written = kept_open ps n bs len open_parts.0

      sums_open : open_at (written ps n bs) (check_page (length ps) n) ≡ true
      sums_open =
          let ab = check_above (length ps) n first last in
          let l = last in
          ap (λ (p : Page). p.writable) (page_beside ps n (check_page (length ps) n) bs (λ e. omega arith)) ∙ open_parts.1

      own_granted : write_answer layer ps n (length bs) ≡ Ok tt
      own_granted = write_open layer ps n (length bs) len open_parts.0

      pub put_granted : put_answer layer ps n (check_page (length ps) n) bs ≡ write_answer 8 (checked ps) n (length bs)
      put_granted =
          let at : ℕ = check_page (length ps) n in
          ap (λ (r : Checked (Unit {0})). ◌>>◌ r (for_page n (write_answer layer (write_pages ps n bs) at 512))) own_granted
          ∙ ap (λ w. for_page n (write_answer layer w at 512)) own_written
          ∙ ap (for_page n) (write_open layer (written ps n bs) at 512 refl sums_open)
          ∙ sym (write_open 8 (checked ps) n (length bs) len o)

      module _ (whole : (k : ℕ) → Whole (page_at ps k).content) where
        at_held : read_buffer ps (check_page (length ps) n) blank ≡ held (page_at ps (check_page (length ps) n))
        at_held = held_any (page_at ps (check_page (length ps) n)).content open_parts.2

        long_held : length (held (page_at ps (check_page (length ps) n))) ≡ 512
        long_held = length_held (page_at ps (check_page (length ps) n)).content (whole (check_page (length ps) n)) open_parts.2

        renewed_is : put_cell (read_buffer ps (check_page (length ps) n) blank) (check_cell n) (check bs) ≡ renewed ps n bs
        renewed_is =
            ap (λ cs. put_cell cs (check_cell n) (check bs)) at_held
            ∙ put_in (held (page_at ps (check_page (length ps) n))) (check_cell n) (check bs) (let h = long_held in omega arith)

        long_renewed : length (renewed ps n bs) ≡ 512
        long_renewed = length_put (held (page_at ps (check_page (length ps) n))) (check_cell n) (check bs) (let h = long_held in omega arith) ∙ long_held

        pub put_pages_lem : check bs < 2 ^ 64 → checked (put_pages layer ps n (check_page (length ps) n) bs (read_buffer ps (check_page (length ps) n) blank)) ≡ write_pages (checked ps) n bs
        put_pages_lem small =
            let at : ℕ = check_page (length ps) n in
            let new : List ℕ = put_cell (read_buffer ps at blank) (check_cell n) (check bs) in
            ap (λ (r : Checked (Unit {0})). checked (if_granted r (write_pages (write_pages ps n bs) at new) (write_pages ps n bs))) own_granted
            ∙ ap (λ w. checked (write_pages w at new)) own_written
            ∙ ap (λ cs. checked (write_pages (written ps n bs) at cs)) renewed_is
            ∙ ap checked (kept_open (written ps n bs) at (renewed ps n bs) long_renewed sums_open)
            ∙ checked_put ps _ n bs first last whole small open_parts.2 (put_both ps n bs first last)
            ∙ sym (kept_open (checked ps) n bs len o)
