-- A page beside its check page, before and after a write. Assumes nothing.
use Rattle.std.proofs.Common.{◌≡◌, ℕ, ◌-◌, ◌/◌, ◌^◌, ◌<◌, ◌≤◌, Bool, true, false, cond, ◌&&◌, eqb, List, [], length, sym, refl, ap, ◌∙◌, ⊎_elim, arith}
use Rattle.std.proofs.lemmas.Bool.{eq-eqb, cases_eq, true≢false}
use Rattle.page.specs.Cells.{cell_at, put_at}
use Rattle.page.proofs.Rounds.{cell_put, cell_beside}
use Rattle.store.specs.Pages.{Content, bytes, marked, Page, page_at, Whole}
use Rattle.store.specs.Rules.{held_by, open_at, written}
use Rattle.checks.specs.Layer.{check, checked_count, check_page, check_cell, is_readable, compared, paired, checked_page, checked}
use Rattle.checks.specs.Laws.{length_checked}
use Rattle.checks.specs.Seals.{held, renewed}
use Rattle.checks.proofs.Pages.{same_pages, after, length_written, page_written, page_beside, check_above, page_checked}

no : {P : Type 0} → false ≡ true → P
no e = absurd (true≢false (sym e))

pub length_held : (c : Content) → Whole c → is_readable c ≡ true → length (held_by c []) ≡ 512
length_held (bytes bs) w r = w
length_held (marked c l) w r = no r

pub as_bytes : (c : Content) → is_readable c ≡ true → bytes (held_by c []) ≡ c
as_bytes (bytes bs) r = refl
as_bytes (marked c l) r = no r

-- page n after its check is put into cell i
pair_put : (i : ℕ) (v w : Bool) (bs cs : List ℕ) → length cs ≡ 512 → i < 64 → check bs < 2 ^ 64
    → paired i (record { content = bytes bs; writable = v }) (record { content = bytes (put_at cs i (check bs)); writable = w }) ≡ record { content = bytes bs; writable = v && (w && true) }
pair_put i v w bs cs h lt small = simp (eq-eqb (check bs) (cell_at (put_at cs i (check bs)) i) (sym (cell_put cs i (check bs) (omega arith) small)))

compared_beside : (k i x : ℕ) (own : Content) (cs : List ℕ) → length cs ≡ 512 → i < 64 → (k ≡ i → ⊥) → compared k own (bytes (put_at cs i x)) ≡ compared k own (bytes cs)
compared_beside k i x (bytes bs) cs h lt ne = ap (λ m. cond (eqb (check bs) m) (bytes bs) (marked 12 8)) (cell_beside cs i x k (omega arith) ne)
compared_beside k i x (marked c l) cs h lt ne = refl

-- another page with the same check page
pair_beside : (k i x : ℕ) (own sums : Page) → Whole sums.content → is_readable sums.content ≡ true → i < 64 → (k ≡ i → ⊥)
    → paired k own (record { content = bytes (put_at (held sums) i x); writable = sums.writable }) ≡ paired k own sums
pair_beside k i x own sums w r lt ne =
    let h = length_held sums.content w r in
    ap (λ (c : Content). record { content = c; writable = own.writable && (sums.writable && true) }) (compared_beside k i x own.content (held sums) h lt ne)
    ∙ ap (λ (c : Content). paired k own (record { content = c; writable = sums.writable })) (as_bytes sums.content r)

-- in ws page n holds the bytes bs and its check page their check; all else is as in ps
pub record Put (ps ws : List Page) (n : ℕ) (bs : List ℕ) : Type 0 where
  pub long : length ws ≡ length ps
  pub own : page_at ws n ≡ after ps n bs
  pub sums : page_at ws (check_page (length ps) n) ≡ after ps (check_page (length ps) n) (renewed ps n bs)
  pub rest : (m : ℕ) → (m ≡ n → ⊥) → (m ≡ check_page (length ps) n → ⊥) → page_at ws m ≡ page_at ps m

module _ (ps : List Page) (n : ℕ) (bs : List ℕ) (z : 0 < n) (l : n ≤ checked_count (length ps)) where
  -- the page is written, then its check
  pub put_both : Put ps (written (written ps n bs) (check_page (length ps) n) (renewed ps n bs)) n bs
  put_both =
      let ab = check_above (length ps) n z l in
      let one : List Page = written ps n bs in
      let k : length one ≡ length ps = length_written ps n bs in
      record {
        long = length_written one (check_page (length ps) n) (renewed ps n bs) ∙ k;
        own = page_beside one (check_page (length ps) n) n (renewed ps n bs) (λ e. omega arith) ∙ page_written ps n bs z (omega arith);
        sums = page_written one (check_page (length ps) n) (renewed ps n bs) (omega arith) (omega arith)
            ∙ ap (λ (p : Page). record { content = bytes (renewed ps n bs); writable = p.writable }) (page_beside ps n (check_page (length ps) n) bs (λ e. omega arith));
        rest = λ m f g. page_beside one (check_page (length ps) n) m (renewed ps n bs) g ∙ page_beside ps n m bs f;
      }

module _ (ps ws : List Page) (n : ℕ) (bs : List ℕ) (z : 0 < n) (l : n ≤ checked_count (length ps)) (whole : (k : ℕ) → Whole (page_at ps k).content)
    (small : check bs < 2 ^ 64) (clear : is_readable (page_at ps (check_page (length ps) n)).content ≡ true) (put : Put ps ws n bs) where
  paired_as : (k : ℕ) (own sums : Page) → page_at ws k ≡ own → page_at ws (check_page (length ps) k) ≡ sums → checked_page ws k ≡ paired (check_cell k) own sums
  paired_as k own sums f g =
      ap (λ q. paired (check_cell k) (page_at ws k) (page_at ws (check_page q k))) put.long
      ∙ ap (λ (p : Page). paired (check_cell k) p (page_at ws (check_page (length ps) k))) f
      ∙ ap (λ (p : Page). paired (check_cell k) own p) g

  pub page_here : checked_page ws n ≡ record { content = bytes bs; writable = (checked_page ps n).writable }
  page_here =
      let at : ℕ = check_page (length ps) n in
      paired_as n _ _ put.own put.sums
      ∙ pair_put (check_cell n) (open_at ps n) (open_at ps at) bs (held (page_at ps at)) (length_held (page_at ps at).content (whole at) clear) (omega arith) small
      ∙ ap (λ t. record { content = bytes bs; writable = open_at ps n && (open_at ps at && t) }) (sym clear)

  pub page_there : (k : ℕ) → 0 < k → k ≤ checked_count (length ps) → (k ≡ n → ⊥) → checked_page ws k ≡ checked_page ps k
  page_there k y h ne =
      let at : ℕ = check_page (length ps) n in
      let ab = check_above (length ps) n z l in
      let ak = check_above (length ps) k y h in
      let own : page_at ws k ≡ page_at ps k = put.rest k ne (λ e. omega arith) in
      ⊎_elim
      (λ (e : (k - 1) / 64 ≡ (n - 1) / 64).
      let apart : check_cell k ≡ check_cell n → ⊥ = λ f. ne (omega arith) in
      let same : check_page (length ps) k ≡ at = omega arith in
      paired_as k _ _ own (ap (page_at ws) same ∙ put.sums)
      ∙ pair_beside (check_cell k) (check_cell n) (check bs) (page_at ps k) (page_at ps at) (whole at) clear (omega arith) apart
      ∙ ap (λ m. paired (check_cell k) (page_at ps k) (page_at ps m)) (sym same))
      (λ (e : (k - 1) / 64 ≡ (n - 1) / 64 → ⊥).
      paired_as k _ _ own (put.rest (check_page (length ps) k) (λ f. omega arith) (λ f. e (omega arith))))
      (cases_eq ((k - 1) / 64) ((n - 1) / 64))

  -- the layer sees its page written, and no other
  pub checked_put : checked ws ≡ written (checked ps) n bs
  checked_put =
      let many : length (checked ws) ≡ checked_count (length ps) = length_checked ws ∙ ap checked_count put.long in
      let many' : length (checked ps) ≡ checked_count (length ps) = length_checked ps in
      same_pages (checked ws) (written (checked ps) n bs)
      (many ∙ sym (length_written (checked ps) n bs ∙ many'))
      (λ k y h.
      let h' : k ≤ checked_count (length ps) = omega arith in
      page_checked ws k y (omega (arith, ap checked_count put.long))
      ∙ ⊎_elim
      (λ (e : k ≡ n).
      ap (checked_page ws) e ∙ page_here
      ∙ ap (λ (p : Page). record { content = bytes bs; writable = p.writable }) (sym (page_checked ps n z l))
      ∙ sym (ap (page_at (written (checked ps) n bs)) e ∙ page_written (checked ps) n bs z (omega arith)))
      (λ (ne : k ≡ n → ⊥).
      page_there k y h' ne ∙ sym (page_beside (checked ps) n k bs ne ∙ page_checked ps k y h'))
      (cases_eq k n))
