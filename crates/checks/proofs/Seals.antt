-- Setting the checks, page by page. Assumes nothing.
use Rattle.std.proofs.Common.{◌≡◌, ℕ, zero, suc, ◌+◌, ◌-◌, ◌*◌, ◌^◌, ◌<◌, ◌≤◌, Bool, true, false, cond, not, ◌&&◌, eqb, ltb, leb, List, [], length, is_ok, zero-add, sym, refl, ap, ◌∙◌, subst, ⊎_elim, arith}
use Rattle.std.proofs.lemmas.List.FromFn.{length-map-range_with_len, get_or-map-range_with_len}
use Rattle.std.proofs.lemmas.Bool.{eq-eqb, eqb-true, le-leb, lt-ltb, not-false, and_parts, and_from, and_cases, cases_eq, cases_Bool, true≢false, both_ways}
use Rattle.fault.specs.Refusals.{Checked}
use Rattle.page.specs.Cells.{cell_at, put_cell}
use Rattle.page.proofs.Rounds.{put_in, cell_put, cell_beside, length_put}
use Rattle.store.specs.Pages.{Content, bytes, marked, Page, no_page, page_at, Whole}
use Rattle.store.specs.Rules.{readable, held_by, open_at, read_answer, read_buffer, write_answer, written, write_pages}
use Rattle.store.proofs.Steps.{write_open, kept_open}
use Rattle.checks.specs.Layer.{check, checked_count, check_page, check_cell, is_readable, compared, checked_page, checked}
use Rattle.checks.specs.Laws.{length_checked}
use Rattle.checks.specs.Calls.{in_layer, agreeing, blank}
use Rattle.checks.specs.Seals.{held, settable, stale, renewed, seal_page, seal_from, sealed, stale_from, stale_count, Elsewhere, SealedBefore, Sealed, sealed_page, sealed_layer, stale_answer, seal_answer, seal_pages}
use Rattle.checks.proofs.Pages.{same_pages, after, length_written, page_written, page_beside, check_above, page_checked}
use Rattle.checks.proofs.Pairs.{length_held}
use Rattle.checks.proofs.Parts.{own_answer, sums_answer, held_any}

-- the call of one page sets its check

stale_by : (i n at : ℕ) (own sums : Content) (o : Bool) → i < 64 → Whole sums
    → (is_ok (readable own n) && (is_ok (readable sums at) && (o && not (agreeing (held_by own blank) (held_by sums blank) i))))
    ≡ ((is_readable own && (is_readable sums && o)) && not (eqb (check (held_by own [])) (cell_at (held_by sums []) i)))
stale_by i n at (marked c l) sums o lt w = refl
stale_by i n at (bytes bs) (marked c l) o lt w = refl
stale_by i n at (bytes bs) (bytes cs) o lt w = ap (λ t. o && not (t && eqb (check bs) (cell_at cs i))) (le-leb (8 * i + 8) (length cs) (omega arith))

settable_parts : (ps : List Page) (n : ℕ) → settable ps n ≡ true
    → (is_readable (page_at ps n).content ≡ true) × (is_readable (page_at ps (check_page (length ps) n)).content ≡ true) × (open_at ps (check_page (length ps) n) ≡ true)
settable_parts ps n h =
    let at : ℕ = check_page (length ps) n in
    let a = and_parts (is_readable (page_at ps n).content) (is_readable (page_at ps at).content && open_at ps at) h in
    let b = and_parts (is_readable (page_at ps at).content) (open_at ps at) a.1 in
    (a.0, b.0, b.1)

stale_settable : (ps : List Page) (n : ℕ) → stale ps n ≡ true → settable ps n ≡ true
stale_settable ps n h = (and_parts (settable ps n) (not (eqb (check (held (page_at ps n))) (cell_at (held (page_at ps (check_page (length ps) n))) (check_cell n)))) h).0

module _ (layer : ℕ) (ps : List Page) (n : ℕ) (inside : in_layer (length ps) n ≡ true) (whole : (k : ℕ) → Whole (page_at ps k).content) where
  stale_is : stale_answer layer ps n (check_page (length ps) n) ≡ stale ps n
  stale_is =
      let at : ℕ = check_page (length ps) n in
      let test : Bool = open_at ps at && not (agreeing (read_buffer ps n blank) (read_buffer ps at blank) (check_cell n)) in
      ap (λ (r : Checked (Unit {0})). is_ok r && (is_ok (read_answer layer ps at 512) && test)) (own_answer layer ps n inside)
      ∙ ap (λ (r : Checked (Unit {0})). is_ok (readable (page_at ps n).content n) && (is_ok r && test)) (sums_answer layer ps n inside)
      ∙ stale_by (check_cell n) n at (page_at ps n).content (page_at ps at).content (open_at ps at) (omega arith) (whole at)

  seal_count : seal_answer layer ps n (check_page (length ps) n) ≡ cond (stale ps n) 1 0
  seal_count =
      let at : ℕ = check_page (length ps) n in
      ap (λ t. cond t (cond (is_ok (write_answer layer ps at 512)) 1 0) 0) stale_is
      ∙ ⊎_elim
      (λ (s : stale ps n ≡ true).
      let p = settable_parts ps n (stale_settable ps n s) in
      ap (λ (r : Checked (Unit {0})). cond (stale ps n) (cond (is_ok r) 1 0) 0) (write_open layer ps at 512 refl p.2))
      (λ (s : stale ps n ≡ false). ap (λ t. cond t (cond (is_ok (write_answer layer ps at 512)) 1 0) 0) s ∙ sym (ap (λ t. cond t 1 0) s))
      (cases_Bool (stale ps n))

  seal_is : seal_pages layer ps n (check_page (length ps) n) ≡ seal_page ps n
  seal_is =
      let at : ℕ = check_page (length ps) n in
      let put : List Page = write_pages ps at (put_cell (read_buffer ps at blank) (check_cell n) (check (read_buffer ps n blank))) in
      ap (λ t. cond t put ps) stale_is
      ∙ ⊎_elim
      (λ (s : stale ps n ≡ true).
      let p = settable_parts ps n (stale_settable ps n s) in
      let h : length (held (page_at ps at)) ≡ 512 = length_held (page_at ps at).content (whole at) p.1 in
      let long : length (renewed ps n (held (page_at ps n))) ≡ 512 = length_put (held (page_at ps at)) (check_cell n) (check (held (page_at ps n))) (omega arith) ∙ h in
      ap (λ cs. cond (stale ps n) (write_pages ps at (put_cell cs (check_cell n) (check (read_buffer ps n blank)))) ps) (held_any (page_at ps at).content p.1)
      ∙ ap (λ bs. cond (stale ps n) (write_pages ps at (put_cell (held (page_at ps at)) (check_cell n) (check bs))) ps) (held_any (page_at ps n).content p.0)
      ∙ ap (λ cs. cond (stale ps n) (write_pages ps at cs) ps) (put_in (held (page_at ps at)) (check_cell n) (check (held (page_at ps n))) (omega arith))
      ∙ ap (λ w. cond (stale ps n) w ps) (kept_open ps at (renewed ps n (held (page_at ps n))) long p.2))
      (λ (s : stale ps n ≡ false). ap (λ t. cond t put ps) s ∙ sym (ap (λ t. cond t (written ps at (renewed ps n (held (page_at ps n)))) ps) s))
      (cases_Bool (stale ps n))

-- one more check set

abbrev once : List Page → ℕ → List Page
once ws n = written ws (check_page (length ws) n) (renewed ws n (held (page_at ws n)))

module _ (ps ws : List Page) (n : ℕ) (z : 0 < n) (l : n ≤ checked_count (length ps)) (s : SealedBefore ps ws n) where
  l' : n ≤ checked_count (length ws)
  l' = omega (arith, ap checked_count s.long)

  -- where the check of page n stands, by the pages in hand
  at_is : check_page (length ws) n ≡ check_page (length ps) n
  at_is = ap (λ q. check_page q n) s.long

  settable_same : settable ws n ≡ settable ps n
  settable_same =
      let at : ℕ = check_page (length ps) n in
      ap (λ a. is_readable (page_at ws n).content && (is_readable (page_at ws a).content && open_at ws a)) at_is
      ∙ ap (λ t. t && (is_readable (page_at ws at).content && open_at ws at)) (s.clear n)
      ∙ ap (λ t. is_readable (page_at ps n).content && (t && open_at ws at)) (s.clear at)
      ∙ ap (λ t. is_readable (page_at ps n).content && (is_readable (page_at ps at).content && t)) (s.openness at)

  free : Elsewhere ps n (check_page (length ps) n) (check_cell n)
  free = λ k y lt st e f. omega arith

  cell_same : cell_at (held (page_at ws (check_page (length ps) n))) (check_cell n) ≡ cell_at (held (page_at ps (check_page (length ps) n))) (check_cell n)
  cell_same = s.rest (check_page (length ps) n) (check_cell n) free

  stale_same : stale ws n ≡ stale ps n
  stale_same =
      let at : ℕ = check_page (length ps) n in
      ap (λ t. t && not (eqb (check (held (page_at ws n))) (cell_at (held (page_at ws (check_page (length ws) n))) (check_cell n)))) settable_same
      ∙ ap (λ a. settable ps n && not (eqb (check (held (page_at ws n))) (cell_at (held (page_at ws a)) (check_cell n)))) at_is
      ∙ ap (λ (p : Page). settable ps n && not (eqb (check (held p)) (cell_at (held (page_at ws at)) (check_cell n)))) (s.own n l)
      ∙ ap (λ x. settable ps n && not (eqb (check (held (page_at ps n))) x)) cell_same

  -- its cell has it already, or it cannot be set
  fresh_cell : stale ws n ≡ false → settable ps n ≡ true → cell_at (held (page_at ws (check_page (length ps) n))) (check_cell n) ≡ check (held (page_at ps n))
  fresh_cell f st =
      let at : ℕ = check_page (length ps) n in
      let test : Bool = eqb (check (held (page_at ps n))) (cell_at (held (page_at ps at)) (check_cell n)) in
      let no : not test ≡ false = ap (λ t. t && not test) (sym st) ∙ sym stale_same ∙ f in
      cell_same ∙ sym (eqb-true (check (held (page_at ps n))) (cell_at (held (page_at ps at)) (check_cell n)) (not-false test no))

  leave : stale ws n ≡ false → SealedBefore ps ws (n + 1)
  leave f = record {
    long = s.long;
    own = s.own;
    openness = s.openness;
    clear = s.clear;
    barred = s.barred;
    set = λ k y lt st. ⊎_elim
        (λ (e : k ≡ n).
        let st' : settable ps n ≡ true = ap (settable ps) (sym e) ∙ st in
        ap (λ j. cell_at (held (page_at ws (check_page (length ps) j))) (check_cell j)) e ∙ fresh_cell f st' ∙ ap (λ j. check (held (page_at ps j))) (sym e))
        (λ (ne : k ≡ n → ⊥). s.set k y (omega arith) st)
        (cases_eq k n);
    rest = λ m i e. s.rest m i (λ k y lt. e k y (omega arith));
  }

  module _ (whole : (k : ℕ) → Whole (page_at ws k).content) (small : check (held (page_at ws n)) < 2 ^ 64) (f : stale ws n ≡ true) where
    parts : (is_readable (page_at ws n).content ≡ true) × (is_readable (page_at ws (check_page (length ws) n)).content ≡ true) × (open_at ws (check_page (length ws) n) ≡ true)
    parts = settable_parts ws n (stale_settable ws n f)

    above : (checked_count (length ws) < check_page (length ws) n) × (check_page (length ws) n ≤ length ws)
    above = check_above (length ws) n z l'

    full : length (held (page_at ws (check_page (length ws) n))) ≡ 512
    full = length_held (page_at ws (check_page (length ws) n)).content (whole (check_page (length ws) n)) parts.1

    page_at_lem : page_at (once ws n) (check_page (length ws) n) ≡ after ws (check_page (length ws) n) (renewed ws n (held (page_at ws n)))
    page_at_lem = page_written ws (check_page (length ws) n) (renewed ws n (held (page_at ws n))) (let a = above in omega arith) above.1

    beside : (m : ℕ) → (m ≡ check_page (length ws) n → ⊥) → page_at (once ws n) m ≡ page_at ws m
    beside m ne = page_beside ws (check_page (length ws) n) m (renewed ws n (held (page_at ws n))) ne

    -- the cells but one are as they were
    cells_beside : (m i : ℕ) → (m ≡ check_page (length ws) n → i ≡ check_cell n → ⊥) → cell_at (held (page_at (once ws n) m)) i ≡ cell_at (held (page_at ws m)) i
    cells_beside m i ne =
        ⊎_elim
        (λ (e : m ≡ check_page (length ws) n).
        ap (λ j. cell_at (held (page_at (once ws n) j)) i) e
        ∙ ap (λ (p : Page). cell_at (held p) i) page_at_lem
        ∙ cell_beside (held (page_at ws (check_page (length ws) n))) (check_cell n) (check (held (page_at ws n))) i (let h = full in omega arith) (ne e)
        ∙ ap (λ j. cell_at (held (page_at ws j)) i) (sym e))
        (λ (o : m ≡ check_page (length ws) n → ⊥). ap (λ (p : Page). cell_at (held p) i) (beside m o))
        (cases_eq m (check_page (length ws) n))

    cell_here : cell_at (held (page_at (once ws n) (check_page (length ps) n))) (check_cell n) ≡ check (held (page_at ps n))
    cell_here =
        ap (λ j. cell_at (held (page_at (once ws n) j)) (check_cell n)) (sym at_is)
        ∙ ap (λ (p : Page). cell_at (held p) (check_cell n)) page_at_lem
        ∙ cell_put (held (page_at ws (check_page (length ws) n))) (check_cell n) (check (held (page_at ws n))) (let h = full in omega arith) small
        ∙ ap (λ (p : Page). check (held p)) (s.own n l)

    open_once : (m : ℕ) → open_at (once ws n) m ≡ open_at ws m
    open_once m =
        ⊎_elim
        (λ (e : m ≡ check_page (length ws) n). ap (open_at (once ws n)) e ∙ ap (λ (p : Page). p.writable) page_at_lem ∙ ap (open_at ws) (sym e))
        (λ (ne : m ≡ check_page (length ws) n → ⊥). ap (λ (p : Page). p.writable) (beside m ne))
        (cases_eq m (check_page (length ws) n))

    clear_once : (m : ℕ) → is_readable (page_at (once ws n) m).content ≡ is_readable (page_at ws m).content
    clear_once m =
        ⊎_elim
        (λ (e : m ≡ check_page (length ws) n).
        ap (λ j. is_readable (page_at (once ws n) j).content) e
        ∙ ap (λ (p : Page). is_readable p.content) page_at_lem
        ∙ sym parts.1
        ∙ ap (λ j. is_readable (page_at ws j).content) (sym e))
        (λ (ne : m ≡ check_page (length ws) n → ⊥). ap (λ (p : Page). is_readable p.content) (beside m ne))
        (cases_eq m (check_page (length ws) n))

    -- the check page is not barred
    unbarred : (m : ℕ) → (is_readable (page_at ps m).content && open_at ps m) ≡ false → m ≡ check_page (length ws) n → ⊥
    unbarred m b e =
        let at : ℕ = check_page (length ws) n in
        let r : is_readable (page_at ps m).content ≡ true = sym (s.clear m) ∙ ap (λ j. is_readable (page_at ws j).content) e ∙ parts.1 in
        let o : open_at ps m ≡ true = sym (s.openness m) ∙ ap (open_at ws) e ∙ parts.2 in
        both_ways (is_readable (page_at ps m).content && open_at ps m) b (and_from (is_readable (page_at ps m).content) (open_at ps m) r o)

    renew : SealedBefore ps (once ws n) (n + 1)
    renew = record {
      long = length_written ws (check_page (length ws) n) (renewed ws n (held (page_at ws n))) ∙ s.long;
      own = λ k h. beside k (λ e. let a = above in omega (arith, ap checked_count s.long)) ∙ s.own k h;
      openness = λ m. open_once m ∙ s.openness m;
      clear = λ m. clear_once m ∙ s.clear m;
      barred = λ m b. beside m (unbarred m b) ∙ s.barred m b;
      set = λ k y lt st. ⊎_elim
          (λ (e : k ≡ n).
          ap (λ j. cell_at (held (page_at (once ws n) (check_page (length ps) j))) (check_cell j)) e ∙ cell_here ∙ ap (λ j. check (held (page_at ps j))) (sym e))
          (λ (ne : k ≡ n → ⊥).
          cells_beside (check_page (length ps) k) (check_cell k) (λ a b. ne (let c = at_is in omega arith)) ∙ s.set k y (omega arith) st)
          (cases_eq k n);
      rest = λ m i e.
          cells_beside m i (λ a b. e n z (omega arith) (sym settable_same ∙ stale_settable ws n f) (sym (a ∙ at_is)) (sym b))
          ∙ s.rest m i (λ k y lt. e k y (omega arith));
    }

  one_more : (whole : (k : ℕ) → Whole (page_at ws k).content) → (stale ws n ≡ true → check (held (page_at ws n)) < 2 ^ 64) → SealedBefore ps (seal_page ws n) (n + 1)
  one_more whole small =
      ⊎_elim
      (λ (f : stale ws n ≡ true). subst (λ v. SealedBefore ps v (n + 1)) (sym (ap (λ t. cond t (once ws n) ws) f)) (renew whole (small f) f))
      (λ (f : stale ws n ≡ false). subst (λ v. SealedBefore ps v (n + 1)) (sym (ap (λ t. cond t (once ws n) ws) f)) (leave f))
      (cases_Bool (stale ws n))

pub none_set : (ps : List Page) → SealedBefore ps ps 1
none_set ps = record {
  long = refl;
  own = λ n h. refl;
  openness = λ m. refl;
  clear = λ m. refl;
  barred = λ m b. refl;
  set = λ n y lt st. absurd (omega arith);
  rest = λ m i e. refl;
}

-- the layer, once all checks are set

agreed : (i : ℕ) (own sums : Content) → is_readable own ≡ true → is_readable sums ≡ true → cell_at (held_by sums []) i ≡ check (held_by own []) → compared i own sums ≡ own
agreed i (marked c l) sums r q e = absurd (true≢false (sym r))
agreed i (bytes bs) (marked c l) r q e = absurd (true≢false (sym q))
agreed i (bytes bs) (bytes cs) r q e = simp (eq-eqb (check bs) (cell_at cs i) (sym e))

unread : (i : ℕ) (own sums others : Content) → is_readable own ≡ false → compared i own sums ≡ compared i own others
unread i (marked c l) sums others r = refl
unread i (bytes bs) sums others r = absurd (true≢false r)

module _ (ps ws : List Page) (s : Sealed ps ws) where
  module _ (n : ℕ) (z : 0 < n) (l : n ≤ checked_count (length ps)) where
    pair_is : checked_page ws n ≡ record {
      content = compared (check_cell n) (page_at ps n).content (page_at ws (check_page (length ps) n)).content;
      writable = (checked_page ps n).writable;
    }
    pair_is =
        let at : ℕ = check_page (length ps) n in
        ap (λ q. record { content = compared (check_cell n) (page_at ws n).content (page_at ws (check_page q n)).content; writable = open_at ws n && (open_at ws (check_page q n) && is_readable (page_at ws (check_page q n)).content) }) s.long
        ∙ ap (λ (p : Page). record { content = compared (check_cell n) p.content (page_at ws at).content; writable = p.writable && (open_at ws at && is_readable (page_at ws at).content) }) (s.own n l)
        ∙ ap (λ t. record { content = compared (check_cell n) (page_at ps n).content (page_at ws at).content; writable = open_at ps n && (t && is_readable (page_at ws at).content) }) (s.openness at)
        ∙ ap (λ t. record { content = compared (check_cell n) (page_at ps n).content (page_at ws at).content; writable = open_at ps n && (open_at ps at && t) }) (s.clear at)

    with_content : (c : Content) → compared (check_cell n) (page_at ps n).content (page_at ws (check_page (length ps) n)).content ≡ c
        → checked_page ws n ≡ record { content = c; writable = (checked_page ps n).writable }
    with_content c e = pair_is ∙ ap (λ (d : Content). record { content = d; writable = (checked_page ps n).writable }) e

    sealed_is : checked_page ws n ≡ sealed_page ps n
    sealed_is =
        let at : ℕ = check_page (length ps) n in
        let own : Content = (page_at ps n).content in
        ⊎_elim
        (λ (h : settable ps n ≡ true).
        let p = settable_parts ps n h in
        with_content own (agreed (check_cell n) own (page_at ws at).content p.0 (s.clear at ∙ p.1) (s.set n z (omega arith) h))
        ∙ sym (ap (λ t. cond t (record { content = own; writable = (checked_page ps n).writable }) (checked_page ps n)) h))
        (λ (h : settable ps n ≡ false).
        with_content (compared (check_cell n) own (page_at ps at).content)
        (⊎_elim
        (λ (r : is_readable own ≡ false). unread (check_cell n) own (page_at ws at).content (page_at ps at).content r)
        (λ (b : (is_readable (page_at ps at).content && open_at ps at) ≡ false). ap (λ (p : Page). compared (check_cell n) own p.content) (s.barred at b))
        (and_cases (is_readable own) (is_readable (page_at ps at).content && open_at ps at) h))
        ∙ sym (ap (λ t. cond t (record { content = own; writable = (checked_page ps n).writable }) (checked_page ps n)) h))
        (cases_Bool (settable ps n))

  page_sealed : (n : ℕ) → 0 < n → n ≤ checked_count (length ps) → page_at (sealed_layer ps) n ≡ sealed_page ps n
  unfolding sealed_layer
  page_sealed zero z h = absurd (omega arith)
  page_sealed (suc i) z h = get_or-map-range_with_len (sealed_page ps) 1 (checked_count (length ps)) i (suc i) no_page (omega arith) (omega arith)

  length_sealed : length (sealed_layer ps) ≡ checked_count (length ps)
  unfolding sealed_layer
  length_sealed = length-map-range_with_len (sealed_page ps) 1 (checked_count (length ps))

  pub layer_sealed : checked ws ≡ sealed_layer ps
  layer_sealed =
      let many : length (checked ws) ≡ checked_count (length ps) = length_checked ws ∙ ap checked_count s.long in
      same_pages (checked ws) (sealed_layer ps) (many ∙ sym length_sealed)
      (λ n z h.
      let l : n ≤ checked_count (length ps) = omega arith in
      page_checked ws n z (omega (arith, ap checked_count s.long)) ∙ sealed_is n z l ∙ sym (page_sealed n z l))

-- a turn of the loop

pub at_most_one : (t : Bool) → cond t 1 0 ≤ 1
at_most_one true = omega arith
at_most_one false = omega arith

pub record Turned (ps ws vs : List Page) (n r : ℕ) : Type 0 where
  pub page : vs ≡ seal_page ws n
  pub count : r ≡ cond (stale ps n) 1 0
  pub more : SealedBefore ps vs (n + 1)

module _ (layer : ℕ) (ps ws : List Page) (n at : ℕ) (z : 0 < n) (l : n ≤ checked_count (length ps)) (e : at ≡ check_page (length ps) n)
    (s : SealedBefore ps ws n) (whole : (k : ℕ) → Whole (page_at ws k).content) where
  inside : in_layer (length ws) n ≡ true
  inside =
      let q = ap checked_count s.long in
      and_from (ltb 0 n) (leb n (checked_count (length ws))) (lt-ltb 0 n z) (le-leb n (checked_count (length ws)) (omega arith))

  at_here : at ≡ check_page (length ws) n
  at_here = e ∙ ap (λ q. check_page q n) (sym s.long)

  small_held : (stale_answer layer ws n at ≡ true → check (read_buffer ws n blank) < 2 ^ 64) → stale ws n ≡ true → check (held (page_at ws n)) < 2 ^ 64
  small_held small f =
      let h = small (ap (stale_answer layer ws n) at_here ∙ stale_is layer ws n inside whole ∙ f) in
      let r = (settable_parts ws n (stale_settable ws n f)).0 in
      omega (arith, h, ap check (held_any (page_at ws n).content r))

  pub turned : (vs : List Page) (r : ℕ) → vs ≡ seal_pages layer ws n at → r ≡ seal_answer layer ws n at
      → (stale_answer layer ws n at ≡ true → check (read_buffer ws n blank) < 2 ^ 64) → Turned ps ws vs n r
  turned vs r v c small =
      let page : vs ≡ seal_page ws n = v ∙ ap (seal_pages layer ws n) at_here ∙ seal_is layer ws n inside whole in
      record {
        page = page;
        count = c ∙ ap (seal_answer layer ws n) at_here ∙ seal_count layer ws n inside whole ∙ ap (λ t. cond t 1 0) (stale_same ps ws n z l s);
        more = subst (λ w. SealedBefore ps w (n + 1)) (sym page) (one_more ps ws n z l s whole (small_held small));
      }

-- the pages before b are done, and `changed` of their checks were stale
pub record Part (ps ws : List Page) (changed b : ℕ) : Type 0 where
  pub few : changed < b
  pub within : b ≤ checked_count (length ps) + 1
  pub count : changed + stale_from ps b (checked_count (length ps) + 1 - b) ≡ stale_count ps
  pub pages : seal_from ws b (checked_count (length ps) + 1 - b) ≡ sealed ps
  pub set : SealedBefore ps ws b

pub part_none : (ps : List Page) → Part ps ps 0 1
unfolding sealed stale_count
part_none ps =
    let all : checked_count (length ps) + 1 - 1 ≡ checked_count (length ps) = omega arith in
    record {
      few = omega arith;
      within = omega arith;
      count = zero-add (stale_from ps 1 (checked_count (length ps) + 1 - 1)) ∙ ap (stale_from ps 1) all;
      pages = ap (seal_from ps 1) all;
      set = none_set ps;
    }

part_more : (ps ws vs : List Page) (changed n r : ℕ) → n ≤ checked_count (length ps) → Part ps ws changed n → Turned ps ws vs n r → Part ps vs (changed + r) (n + 1)
part_more ps ws vs changed n r l part t =
    let k : ℕ = checked_count (length ps) + 1 - (n + 1) in
    let left : checked_count (length ps) + 1 - n ≡ suc k = omega arith in
    let one = at_most_one (stale ps n) in
    let more = ap (stale_from ps n) left in
    record {
      few = omega (arith, part.few, t.count, one);
      within = omega arith;
      count = omega (arith, part.count, t.count, more);
      pages = ap (λ w. seal_from w (n + 1) k) t.page ∙ sym (ap (seal_from ws n) left) ∙ part.pages;
      set = t.more;
    }

pub part_sealed : (layer : ℕ) (ps ws vs : List Page) (below end changed n r : ℕ) → below ≡ length ps → end ≡ checked_count below → 1 ≤ n → n ≤ end
    → ((k : ℕ) → Whole (page_at ws k).content) → Part ps ws changed n → vs ≡ seal_pages layer ws n (check_page below n) → r ≡ seal_answer layer ws n (check_page below n)
    → (stale_answer layer ws n (check_page below n) ≡ true → check (read_buffer ws n blank) < 2 ^ 64) → Part ps vs (changed + r) (n + 1)
part_sealed layer ps ws vs below end changed n r b e z m whole part v c small =
    let z' : 0 < n = omega arith in
    let l : n ≤ checked_count (length ps) = omega (arith, e ∙ ap checked_count b) in
    part_more ps ws vs changed n r l part (turned layer ps ws n (check_page below n) z' l (ap (λ q. check_page q n) b) part.set whole vs r v c small)

-- all are done
pub record AllDone (ps ws : List Page) (changed : ℕ) : Type 0 where
  pub value : changed ≡ stale_count ps
  pub after : ws ≡ sealed ps
  pub cells : Sealed ps ws
  pub layer : checked ws ≡ sealed_layer ps

pub part_all : (ps ws : List Page) (changed b : ℕ) → b ≡ checked_count (length ps) + 1 → Part ps ws changed b → AllDone ps ws changed
part_all ps ws changed b end part =
    let none : checked_count (length ps) + 1 - b ≡ 0 = omega arith in
    let done : Sealed ps ws = subst (λ n. SealedBefore ps ws n) end part.set in
    record {
      value = omega (arith, part.count, ap (stale_from ps b) none);
      after = sym (ap (seal_from ws b) none) ∙ part.pages;
      cells = done;
      layer = layer_sealed ps ws done;
    }
