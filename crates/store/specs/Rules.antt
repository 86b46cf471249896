-- What reading and writing a page answer, and what they change. Assumes nothing.
use Rattle.std.specs.Prelude.{ℕ, zero, suc, ◌-◌, ◌*◌, Bool, cond, ◌&&◌, List, length, Ok, Err, ◌==◌, slice_index_or, slice_set}
use Rattle.fault.specs.declared.kinds.Cause.TheVariants.{NoPage, PageClosed, WrongLength}
use Rattle.fault.specs.Faults.{nowhere, on_page, fault, mark}
use Rattle.fault.specs.Refusals.{Checked, ◌>>◌, ◌else◌}
use Rattle.store.specs.Pages.{Content, bytes, marked, Page, no_page, page_at, is_page}

-- an unreadable page is refused by its mark
abbrev pub readable : Content → ℕ → Checked (Unit {0})
readable (bytes bs) n = Ok tt
readable (marked cause layer) n = Err (mark cause layer n)

abbrev pub read_answer : ℕ → List Page → ℕ → ℕ → Checked (Unit {0})
read_answer layer ps n len = do
  (len == 512) else fault WrongLength layer nowhere
  is_page ps n else fault NoPage layer (on_page n)
  readable (page_at ps n).content n

-- the bytes of a readable page, else what was there
abbrev pub held_by : Content → List ℕ → List ℕ
held_by (bytes bs) old = bs
held_by (marked cause layer) old = old

abbrev pub read_buffer : List Page → ℕ → List ℕ → List ℕ
read_buffer ps n old = cond (length old == 512) (held_by (page_at ps n).content old) old

-- whether page n is there and may be written
abbrev pub open_at : List Page → ℕ → Bool
open_at ps n = (page_at ps n).writable

abbrev pub write_answer : ℕ → List Page → ℕ → ℕ → Checked (Unit {0})
write_answer layer ps n len = do
  (len == 512) else fault WrongLength layer nowhere
  is_page ps n else fault NoPage layer (on_page n)
  open_at ps n else fault PageClosed layer (on_page n)

-- page n holds other bytes
abbrev pub written : List Page → ℕ → List ℕ → List Page
written ps zero bs = ps
written ps (suc i) bs = slice_set ps i (record { content = bytes bs; writable = (slice_index_or ps i no_page).writable })

abbrev pub write_pages : List Page → ℕ → List ℕ → List Page
write_pages ps n bs = cond (length bs == 512 && open_at ps n) (written ps n bs) ps

-- the byte at which page n begins, for a buffer of len bytes
abbrev pub start_answer : ℕ → List Page → ℕ → ℕ → Checked ℕ
start_answer layer ps n len = do
  (len == 512) else fault WrongLength layer nowhere
  is_page ps n else fault NoPage layer (on_page n)
  Ok ((n - 1) * 512)
