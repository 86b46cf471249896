-- Setting the checks of the pages. Assumes nothing.
use Rattle.std.specs.Prelude.{◌≡◌, ℕ, zero, suc, ◌+◌, ◌<◌, ◌≤◌, Bool, true, false, cond, not, ◌&&◌, List, [], map, length, is_ok, Some, None, Option, ◌==◌, ◌≢◌}
use Rattle.std.specs.List.{range_with_len}
use Rattle.page.specs.Cells.{cell_at, put_at, put_cell}
use Rattle.store.specs.Pages.{Page, page_at}
use Rattle.store.specs.Rules.{held_by, open_at, read_answer, read_buffer, write_answer, written, write_pages}
use Rattle.checks.specs.Layer.{check, checked_count, check_page, check_cell, is_readable, checked_page}
use Rattle.checks.specs.Calls.{agreeing, blank}

-- the bytes of a readable page
abbrev pub held : Page → List ℕ
held p = held_by p.content []

-- the check of page n can be set: the page and its check page are readable, and the check page is open
abbrev pub settable : List Page → ℕ → Bool
settable ps n =
    is_readable (page_at ps n).content && (is_readable (page_at ps (check_page (length ps) n)).content && open_at ps (check_page (length ps) n))

-- it can be set, and its cell has another number
abbrev pub stale : List Page → ℕ → Bool
stale ps n =
    settable ps n && not (check (held (page_at ps n)) == cell_at (held (page_at ps (check_page (length ps) n))) (check_cell n))

-- the check page of page n with the check of the bytes bs
abbrev pub renewed : List Page → ℕ → List ℕ → List ℕ
renewed ps n bs = put_at (held (page_at ps (check_page (length ps) n))) (check_cell n) (check bs)

-- the check of page n is set
abbrev pub seal_page : List Page → ℕ → List Page
seal_page ps n = cond (stale ps n) (written ps (check_page (length ps) n) (renewed ps n (held (page_at ps n)))) ps

-- the checks of k pages are set, from page n on
abbrev pub seal_from : List Page → ℕ → ℕ → List Page
seal_from ps n zero = ps
seal_from ps n (suc k) = seal_from (seal_page ps n) (n + 1) k

-- the checks of all pages are set
unfoldable pub sealed : List Page → List Page
sealed ps = seal_from ps 1 (checked_count (length ps))

-- how many of k pages have a stale check, from page n on
abbrev pub stale_from : List Page → ℕ → ℕ → ℕ
stale_from ps n zero = 0
stale_from ps n (suc k) = cond (stale ps n) 1 0 + stale_from ps (n + 1) k

unfoldable pub stale_count : List Page → ℕ
stale_count ps = stale_from ps 1 (checked_count (length ps))

-- cell i of page m below has the check of no page before b that can be set
abbrev pub Elsewhere : List Page → ℕ → ℕ → ℕ → Type 0
Elsewhere ps b m i = (n : ℕ) → 0 < n → n < b → settable ps n ≡ true → check_page (length ps) n ≡ m → check_cell n ≢ i

-- ws is ps with the checks set of the pages before b, and nothing else changed
pub record SealedBefore (ps ws : List Page) (b : ℕ) : Type 0 where
  pub long : length ws ≡ length ps
  pub own : (n : ℕ) → n ≤ checked_count (length ps) → page_at ws n ≡ page_at ps n
  pub openness : (m : ℕ) → open_at ws m ≡ open_at ps m
  pub clear : (m : ℕ) → is_readable (page_at ws m).content ≡ is_readable (page_at ps m).content
  pub barred : (m : ℕ) → (is_readable (page_at ps m).content && open_at ps m) ≡ false → page_at ws m ≡ page_at ps m
  pub set : (n : ℕ) → 0 < n → n < b → settable ps n ≡ true → cell_at (held (page_at ws (check_page (length ps) n))) (check_cell n) ≡ check (held (page_at ps n))
  pub rest : (m i : ℕ) → Elsewhere ps b m i → cell_at (held (page_at ws m)) i ≡ cell_at (held (page_at ps m)) i

abbrev pub Sealed : List Page → List Page → Type 0
Sealed ps ws = SealedBefore ps ws (checked_count (length ps) + 1)

-- page n of the layer after that: readable with its bytes, if its check can be set, and else as it was
abbrev pub sealed_page : List Page → ℕ → Page
sealed_page ps n = cond (settable ps n) (record { content = (page_at ps n).content; writable = (checked_page ps n).writable }) (checked_page ps n)

unfoldable pub sealed_layer : List Page → List Page
sealed_layer ps = map (sealed_page ps) (range_with_len 1 (checked_count (length ps)))

-- the parts of it: what the store below answers on page n and its check page `at`

abbrev pub stale_answer : ℕ → List Page → ℕ → ℕ → Bool
stale_answer layer ps n at =
    is_ok (read_answer layer ps n 512) && (is_ok (read_answer layer ps at 512) && (open_at ps at && not (agreeing (read_buffer ps n blank) (read_buffer ps at blank) (check_cell n))))

abbrev pub renewed_bytes : ℕ → List Page → ℕ → ℕ → Option (List ℕ)
renewed_bytes layer ps n at =
    cond (stale_answer layer ps n at) (Some (put_cell (read_buffer ps at blank) (check_cell n) (check (read_buffer ps n blank)))) None

abbrev pub seal_answer : ℕ → List Page → ℕ → ℕ → ℕ
seal_answer layer ps n at = cond (stale_answer layer ps n at) (cond (is_ok (write_answer layer ps at 512)) 1 0) 0

abbrev pub seal_pages : ℕ → List Page → ℕ → ℕ → List Page
seal_pages layer ps n at =
    cond (stale_answer layer ps n at) (write_pages ps at (put_cell (read_buffer ps at blank) (check_cell n) (check (read_buffer ps n blank)))) ps
