-- What the parts of a call answer, by what the store below answers. Assumes nothing.
use Rattle.std.specs.Prelude.{◌≡◌, ℕ, Bool, cond, ◌&&◌, List, length, replicate, is_ok, Some, None, Ok, Err, Option, ◌==◌, nat_le, nat_lt}
use Rattle.fault.specs.declared.kinds.Cause.TheVariants.{NoPage, WrongLength, CheckDiffers}
use Rattle.fault.specs.Faults.{nowhere, on_page, fault, mark}
use Rattle.fault.specs.Refusals.{Checked, ◌>>◌, ◌else◌, if_granted}
use Rattle.page.specs.Cells.{cell_at, has_cell, put_cell}
use Rattle.store.specs.Pages.{Page, Kept}
use Rattle.store.specs.Rules.{open_at, read_answer, read_buffer, write_answer, write_pages}
use Rattle.checks.specs.Layer.{check, checked_count, check_page, check_cell}

-- whether the layer over q pages has page n
abbrev pub in_layer : ℕ → ℕ → Bool
in_layer q n = nat_lt 0 n && nat_le n (checked_count q)

-- the page below with the check of page n, for a buffer of len bytes
abbrev pub place_answer : List Page → ℕ → ℕ → Checked ℕ
place_answer ps n len = do
  (len == 512) else fault WrongLength 8 nowhere
  in_layer (length ps) n else fault NoPage 8 (on_page n)
  Ok (check_page (length ps) n)

-- a refusal of a check page, reported for page n
abbrev pub for_page : ℕ → Checked (Unit {0}) → Checked (Unit {0})
for_page n (Ok x) = Ok x
for_page n (Err e) = Err (mark e.cause e.layer n)

-- whether cell i of the bytes cs has the check of the bytes bs
abbrev pub agreeing : List ℕ → List ℕ → ℕ → Bool
agreeing bs cs i = has_cell cs i && check bs == cell_at cs i

-- a page of no bytes but zeros, into which a page is read
abbrev pub blank : List ℕ
blank = replicate 512 0

-- the store below means what it meant, and keeps what it kept
pub record Still {S : Type 0} (pages_of : S → List Page) (kept_of : S → Kept) (s t : S) : Type 0 where
  pub same : pages_of t ≡ pages_of s
  pub kept : kept_of t ≡ kept_of s

-- page n is read, then page `at` below, and the two are compared
abbrev pub verify_answer : ℕ → List Page → ℕ → ℕ → Checked (Unit {0})
verify_answer layer ps n at = do
  read_answer layer ps n 512
  for_page n (read_answer layer ps at 512)
  agreeing (read_buffer ps n blank) (read_buffer ps at blank) (check_cell n) else fault CheckDiffers 8 (on_page n)

-- the bytes of page n, where that is granted
abbrev pub verified_bytes : ℕ → List Page → ℕ → ℕ → Checked (List ℕ)
verified_bytes layer ps n at = do
  verify_answer layer ps n at
  Ok (read_buffer ps n blank)

-- page n and page `at` below are open, and `at` can be read
abbrev pub ready_answer : ℕ → List Page → ℕ → ℕ → Bool
ready_answer layer ps n at = open_at ps n && (open_at ps at && is_ok (read_answer layer ps at 512))

-- the bytes of page `at` below, where that is so
abbrev pub ready_bytes : ℕ → List Page → ℕ → ℕ → Option (List ℕ)
ready_bytes layer ps n at = cond (ready_answer layer ps n at) (Some (read_buffer ps at blank)) None

-- page n is written, then the check of its bytes into `cs`, the bytes of page `at` below
abbrev pub put_answer : ℕ → List Page → ℕ → ℕ → List ℕ → Checked (Unit {0})
put_answer layer ps n at bs = do
  write_answer layer ps n (length bs)
  for_page n (write_answer layer (write_pages ps n bs) at 512)

abbrev pub put_pages : ℕ → List Page → ℕ → ℕ → List ℕ → List ℕ → List Page
put_pages layer ps n at bs cs =
    if_granted (write_answer layer ps n (length bs)) (write_pages (write_pages ps n bs) at (put_cell cs (check_cell n) (check bs))) (write_pages ps n bs)
