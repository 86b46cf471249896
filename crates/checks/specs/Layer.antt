-- The check of a page, where it stands, and what the layer holds over the pages below. Assumes nothing.
use Rattle.std.specs.Prelude.{ℕ, ◌+◌, ◌-◌, ◌*◌, ◌/◌, ◌%◌, Bool, true, false, cond, ◌&&◌, List, [], ◌∷◌, map, length, ◌==◌}
use Rattle.std.specs.List.{range_with_len}
use Rattle.fault.specs.declared.kinds.Cause.TheVariants.{CheckDiffers}
use Rattle.fault.specs.Causes.{number}
use Rattle.page.specs.Cells.{cell_at}
use Rattle.store.specs.Pages.{Content, bytes, marked, Page, page_at}

-- k times the first byte, k + 1 times the next, and so on
abbrev pub weighted : ℕ → List ℕ → ℕ
weighted k [] = 0
weighted k (b ∷ bs) = k * b + weighted (k + 1) bs

-- the check of a page: the sum of i + 1 times byte i
unfoldable pub check : List ℕ → ℕ
check bs = weighted 1 bs

-- how many of q pages below are pages of the layer: q less q / 65, rounded up
abbrev pub checked_count : ℕ → ℕ
checked_count q = q - (q + 64) / 65

-- the page below in which the check of page n stands
abbrev pub check_page : ℕ → ℕ → ℕ
check_page q n = checked_count q + 1 + (n - 1) / 64

-- and its cell there
abbrev pub check_cell : ℕ → ℕ
check_cell n = (n - 1) % 64

abbrev pub is_readable : Content → Bool
is_readable (bytes bs) = true
is_readable (marked cause layer) = false

-- a page's content beside that of its check page, in whose cell i its check stands
abbrev pub compared : ℕ → Content → Content → Content
compared i (marked cause layer) sums = marked cause layer
compared i (bytes bs) (marked cause layer) = marked cause layer
compared i (bytes bs) (bytes cs) = cond (check bs == cell_at cs i) (bytes bs) (marked (number CheckDiffers) 8)

-- a page beside its check page
abbrev pub paired : ℕ → Page → Page → Page
paired i own sums = record {
  content = compared i own.content sums.content;
  writable = own.writable && (sums.writable && is_readable sums.content);
}

-- page n of the layer over the pages ps
abbrev pub checked_page : List Page → ℕ → Page
checked_page ps n = paired (check_cell n) (page_at ps n) (page_at ps (check_page (length ps) n))

-- the pages of the layer over the pages ps
unfoldable pub checked : List Page → List Page
checked ps = map (checked_page ps) (range_with_len 1 (checked_count (length ps)))
