-- The pages of a row of bytes. Assumes nothing.
use Rattle.std.proofs.Common.{◌≡◌, ℕ, zero, suc, ◌+◌, ◌-◌, ◌*◌, ◌/◌, ◌<◌, ◌≤◌, min, Bool, true, false, List, length, get_or, take, drop, set, sym, refl, ap, ◌∙◌, ⊎_elim, arith, length-append, length-drop, length-set, length-take}
use borrow.Rule.Slice.PartMut.{put_mid}
use Rattle.std.proofs.lemmas.List.{drop-drop, same_lists, get_or-set_same, get_or-set_other}
use Rattle.std.proofs.lemmas.Slice.{between_is, take-put_mid_below, drop-put_mid, between-put_mid}
use Rattle.std.proofs.lemmas.Bool.{cases_lt, cases_eq, cases_Bool, true≢false}
use Rattle.store.specs.Pages.{bytes, Page, no_page, page_at, is_page, page_count, cut, paged, past}
use Rattle.store.specs.Rules.{open_at, written}
use Rattle.store.specs.Laws.{length_cut}
use Rattle.store.proofs.Steps.{page_bounds, open_outside}

abbrev pub page : Bool → List ℕ → Page
page w bs = record { content = bytes bs; writable = w }

pub get_or-cut : (w : Bool) (k : ℕ) (bs : List ℕ) (i : ℕ) (d : Page) → i < k → get_or (cut w k bs) i d ≡ page w (take 512 (drop (i * 512) bs))
get_or-cut w zero bs i d h = absurd (omega arith)
get_or-cut w (suc k) bs zero d h = refl
get_or-cut w (suc k) bs (suc i) d h =
    let e : 512 + i * 512 ≡ suc i * 512 = omega arith in
    let l : i < k = omega arith in
    get_or-cut w k (drop 512 bs) i d l ∙ ap (λ t. page w (take 512 t)) (drop-drop (i * 512) 512 bs ∙ ap (λ m. drop m bs) e)

-- place j of the row, after a write over place i
module _ (bs ys : List ℕ) (i : ℕ) (hi : i * 512 + 512 ≤ length bs) (hy : length ys ≡ 512) where
  other_part : (j : ℕ) → j * 512 + 512 ≤ length bs → (i ≡ j → ⊥) → take 512 (drop (j * 512) (put_mid (i * 512) 512 bs ys)) ≡ take 512 (drop (j * 512) bs)
  other_part j hj ne =
      let in-bs : i * 512 ≤ length bs = omega arith in
      ⊎_elim
      (λ (lt : i < j). let above : i * 512 + 512 ≤ j * 512 = omega arith in ap (take 512) (drop-put_mid (i * 512) 512 bs ys (j * 512) above in-bs hy))
      (λ (ge : j ≤ i).
      let below : j * 512 + 512 ≤ i * 512 = omega arith in
      let e : 512 ≡ (j * 512 + 512) - j * 512 = omega arith in
      ap (λ m. take m (drop (j * 512) (put_mid (i * 512) 512 bs ys))) e
      ∙ between_is (put_mid (i * 512) 512 bs ys) (j * 512) (j * 512 + 512)
      ∙ ap (drop (j * 512)) (take-put_mid_below (i * 512) 512 bs ys (j * 512 + 512) below in-bs)
      ∙ sym (between_is bs (j * 512) (j * 512 + 512))
      ∙ ap (λ m. take m (drop (j * 512) bs)) (sym e))
      (cases_lt i j)

  same_part : take 512 (drop (i * 512) (put_mid (i * 512) 512 bs ys)) ≡ ys
  same_part =
      let in-bs : i * 512 ≤ length bs = omega arith in
      let e : 512 ≡ (i * 512 + 512) - i * 512 = omega arith in
      ap (λ m. take m (drop (i * 512) (put_mid (i * 512) 512 bs ys))) e ∙ between-put_mid (i * 512) 512 bs ys (i * 512 + 512) in-bs (hy ∙ e)

  pub length_put : length (put_mid (i * 512) 512 bs ys) ≡ length bs
  length_put = simp (length-append, length-take, length-drop) (omega arith)

pub set_cut : (w : Bool) (k : ℕ) (bs ys : List ℕ) (i : ℕ) → i < k → k * 512 ≤ length bs → length ys ≡ 512
    → cut w k (put_mid (i * 512) 512 bs ys) ≡ set (cut w k bs) i (page w ys)
set_cut w k bs ys i h hk hy =
    let new : List ℕ = put_mid (i * 512) 512 bs ys in
    let in-i : i * 512 + 512 ≤ length bs = omega arith in
    same_lists _ _
    (length_cut w k new ∙ sym (length-set (cut w k bs) i (page w ys) ∙ length_cut w k bs))
    (λ j d hj.
    let lj : j < k = rw length_cut at hj in
    let in-j : j * 512 + 512 ≤ length bs = omega arith in
    let li : i < length (cut w k bs) = rw length_cut h in
    get_or-cut w k new j d lj
    ∙ ⊎_elim
    (λ (e : i ≡ j).
    ap (λ m. page w (take 512 (drop (m * 512) new))) (sym e)
    ∙ ap (page w) (same_part bs ys i in-i hy)
    ∙ sym (get_or-set_same (cut w k bs) i (page w ys) d li)
    ∙ ap (λ m. get_or (set (cut w k bs) i (page w ys)) m d) e)
    (λ (ne : i ≡ j → ⊥).
    ap (page w) (other_part bs ys i in-i hy j in-j ne)
    ∙ sym (get_or-cut w k bs j d lj)
    ∙ sym (get_or-set_other (cut w k bs) i j (page w ys) d (λ e. ne (sym e))))
    (cases_eq i j))

module _ (w : Bool) (bs : List ℕ) where
  pub paged_bounds : (n : ℕ) → is_page (paged w bs) n ≡ true → (0 < n) × (n ≤ page_count bs)
  paged_bounds n h = let b = page_bounds (paged w bs) n h in (b.0, (rw length_cut at b.1))

  pub page_paged : (n : ℕ) → is_page (paged w bs) n ≡ true → page_at (paged w bs) n ≡ page w (take 512 (drop ((n - 1) * 512) bs))
  page_paged zero h = absurd (true≢false (sym h))
  page_paged (suc i) h =
      let b = paged_bounds (suc i) h in
      let l : i < page_count bs = omega arith in
      let e : i ≡ suc i - 1 = omega arith in
      get_or-cut w (page_count bs) bs i no_page l ∙ ap (λ m. page w (take 512 (drop (m * 512) bs))) e

  pub open_paged : (n : ℕ) → is_page (paged w bs) n ≡ true → open_at (paged w bs) n ≡ w
  open_paged n h = ap (λ (p : Page). p.writable) (page_paged n h)

  -- a write over page n is a write of the row
  pub written_paged : (n : ℕ) (ys : List ℕ) → is_page (paged w bs) n ≡ true → length ys ≡ 512
      → paged w (put_mid ((n - 1) * 512) 512 bs ys) ≡ written (paged w bs) n ys
  written_paged zero ys h hy = absurd (true≢false (sym h))
  written_paged (suc i) ys h hy =
      let b = paged_bounds (suc i) h in
      let l : i < page_count bs = omega arith in
      let e : suc i - 1 ≡ i = omega arith in
      let all_in : page_count bs * 512 ≤ length bs = omega arith in
      let in-i : i * 512 + 512 ≤ length bs = omega arith in
      ap (λ m. paged w (put_mid (m * 512) 512 bs ys)) e
      ∙ ap (λ m. cut w (min 1024 (m / 512)) (put_mid (i * 512) 512 bs ys)) (length_put bs ys i in-i hy)
      ∙ set_cut w (page_count bs) bs ys i l all_in hy
      ∙ ap (λ v. set (paged w bs) i (page v ys)) (sym (open_paged (suc i) h))

  -- and leaves the bytes past the last page
  pub past_kept : (n : ℕ) (ys : List ℕ) → is_page (paged w bs) n ≡ true → length ys ≡ 512 → past (put_mid ((n - 1) * 512) 512 bs ys) ≡ past bs
  past_kept n ys h hy =
      let b = paged_bounds n h in
      let in-n : (n - 1) * 512 + 512 ≤ length bs = omega arith in
      let in-bs : (n - 1) * 512 ≤ length bs = omega arith in
      let before : (n - 1) * 512 + 512 ≤ page_count bs * 512 = omega arith in
      ap (λ m. drop (min 1024 (m / 512) * 512) (put_mid ((n - 1) * 512) 512 bs ys)) (length_put bs ys (n - 1) in-n hy)
      ∙ drop-put_mid ((n - 1) * 512) 512 bs ys (page_count bs * 512) before in-bs hy

-- every page of an image is open, and none of a frozen one

pub open_image : (bs : List ℕ) (n : ℕ) → open_at (paged true bs) n ≡ is_page (paged true bs) n
open_image bs n =
    ⊎_elim
    (λ (h : is_page (paged true bs) n ≡ true). open_paged true bs n h ∙ sym h)
    (λ (h : is_page (paged true bs) n ≡ false). open_outside (paged true bs) n h ∙ sym h)
    (cases_Bool (is_page (paged true bs) n))

pub open_frozen : (bs : List ℕ) (n : ℕ) → open_at (paged false bs) n ≡ false
open_frozen bs n =
    ⊎_elim (open_paged false bs n) (open_outside (paged false bs) n) (cases_Bool (is_page (paged false bs) n))

-- a part of 512 bytes, as the code names its bounds
module _ (bs : List ℕ) (start at : ℕ) (e : start ≡ at) where
  pub part_at : take ((start + 512) - start) (drop start bs) ≡ take 512 (drop at bs)
  part_at = let k : (start + 512) - start ≡ 512 = omega arith in ap (λ m. take m (drop start bs)) k ∙ ap (λ m. take 512 (drop m bs)) e

  pub put_at_lem : (ys zs : List ℕ) → ys ≡ zs → put_mid start ((start + 512) - start) bs ys ≡ put_mid at 512 bs zs
  put_at_lem ys zs h =
      let k : (start + 512) - start ≡ 512 = omega arith in
      ap (λ m. put_mid start m bs ys) k ∙ ap (λ m. put_mid m 512 bs ys) e ∙ ap (put_mid at 512 bs) h
