-- Which of two stores holds a page, and under what number. Assumes nothing.
use Rattle.std.specs.Prelude.{◌≡◌, ℕ, ◌-◌, cond, List, length, Some, None, Ok, Err, Option, ◌==◌, nat_le}
use Rattle.fault.specs.declared.kinds.Cause.TheVariants.{NoPage, PageClosed, WrongLength}
use Rattle.fault.specs.Faults.{nowhere, on_page, fault, moved}
use Rattle.fault.specs.Refusals.{Checked, ◌>>◌, ◌else◌, ◌otherwise◌}
use Rattle.store.specs.Pages.{Page, Kept, is_page}
use Rattle.split.specs.Joined.{joined}
use Rattle.split.specs.declared.Split.{Split}
use Rattle.split.specs.declared.Side.{Side}
use Rattle.split.specs.declared.Side.TheVariants.{First, Second}

-- page n, where the first store has k pages
abbrev pub side_at : ℕ → ℕ → Side
side_at k n = cond (nat_le n k) (First n) (Second (n - k))

abbrev pub side_of : List Page → List Page → ℕ → Option Side
side_of ps qs n = cond (is_page (joined ps qs) n) (Some (side_at (length ps) n)) None

-- the same for a buffer of len bytes, or why it is refused
abbrev pub side_answer : List Page → List Page → ℕ → ℕ → Checked Side
side_answer ps qs n len = do
  (len == 512) else fault WrongLength 7 nowhere
  side_of ps qs n otherwise fault NoPage 7 (on_page n)

-- the number of the page on its side
abbrev pub in_side : Side → ℕ
in_side (First m) = m
in_side (Second m) = m

-- the one of two that belongs to a side
abbrev pub of_side : {X : Type 0} → Side → X → X → X
of_side (First m) x y = x
of_side (Second m) x y = y

-- a part's answer to a read, told of page n
abbrev pub told_of : ℕ → Checked (Unit {0}) → Checked (Unit {0})
told_of n (Ok x) = Ok tt
told_of n (Err e) = Err (moved n e)

-- a part's answer to a write of a page that it has, told of page n
abbrev pub closed_at : ℕ → Checked (Unit {0}) → Checked (Unit {0})
closed_at n (Ok x) = Ok tt
closed_at n (Err e) = Err (fault PageClosed 7 (on_page n))

-- both parts mean what they meant, and keep what they kept
pub record Still {A B : Type 0} (pages_a : A → List Page) (pages_b : B → List Page) (kept_a : A → Kept) (kept_b : B → Kept) (s t : Split A B) : Type 0 where
  pub first : pages_a t.first ≡ pages_a s.first
  pub second : pages_b t.second ≡ pages_b s.second
  pub kept_first : kept_a t.first ≡ kept_a s.first
  pub kept_second : kept_b t.second ≡ kept_b s.second
