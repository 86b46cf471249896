-- What holds of every run. Assumes nothing.
use Rattle.std.specs.Prelude.{◌≡◌, ℕ, ◌<◌, false, List, map, length, Ok, Err}
use Rattle.fault.specs.declared.kinds.Cause.TheVariants.{NoAddresses}
use Rattle.fault.specs.declared.kinds.Fault.{Fault}
use Rattle.fault.specs.declared.kinds.Place.{Place}
use Rattle.fault.specs.Faults.{on_page, fault, via}
use Rattle.page.specs.declared.descriptor.Descriptor.{Descriptor}
use Rattle.page.specs.Cells.{cell_at}
use Rattle.page.specs.Form.{first_fault}
use Rattle.store.specs.Pages.{bytes, Page, page_at, Whole}
use Rattle.graph.specs.declared.calls.Call.{Call}
use Rattle.graph.specs.Edits.{edits_of, made, touched, last_of}
use Rattle.graph.specs.Graphs.{Graph, Setting, wanted_count, opening}
use Rattle.graph.specs.Openings.{Opens}
use Rattle.graph.specs.Steps.{step, final}

-- after any run the pages are those before it, with the granted edits made in order
abbrev pub EditedInOrder : Type 0
EditedInOrder = (s : Setting) (g : Graph) (cs : List Call) → (final s g cs).pages ≡ made (edits_of s g cs) g.pages

-- a page that no granted edit names is as it was
abbrev pub OthersKept : Type 0
OthersKept =
    (s : Setting) (g : Graph) (cs : List Call) (n : ℕ) → touched (edits_of s g cs) n ≡ false → page_at (final s g cs).pages n ≡ page_at g.pages n

-- no run changes how many pages there are, and which are open to writing
abbrev pub WritingKept : Type 0
WritingKept =
    (s : Setting) (g : Graph) (cs : List Call) → map (λ (p : Page). p.writable) (final s g cs).pages ≡ map (λ (p : Page). p.writable) g.pages

-- every readable page has 512 bytes, and no mark has the cause 18
abbrev pub AllWhole : List Page → Type 0
AllWhole ps = (n : ℕ) → Whole (page_at ps n).content

abbrev pub WholeKept : Type 0
WholeKept = (s : Setting) (g : Graph) (cs : List Call) → AllWhole g.pages → AllWhole (final s g cs).pages

-- page n is readable, and cell k holds x
pub record Holds (ps : List Page) (n k x : ℕ) : Type 0 where
  pub held : List ℕ
  pub reads : (page_at ps n).content ≡ bytes held
  pub cell : cell_at held k ≡ x

-- each cell after any run holds what the last granted edit put there, else what it held
abbrev pub CellsLast : Type 0
CellsLast =
    (s : Setting) (g : Graph) (cs : List Call) (n k x : ℕ) → AllWhole g.pages → k < 64 → Holds g.pages n k x → Holds (final s g cs).pages n k (last_of (edits_of s g cs) n k x)

-- a refused call changes nothing
abbrev pub RefusedUnchanged : Type 0
RefusedUnchanged = (s : Setting) (g : Graph) (c : Call) (e : Fault) → (step s g c).0 ≡ Err e → (step s g c).1 ≡ g

-- page n is readable and lawful, with these bytes
pub record LawfulPage (ts : List Descriptor) (ps : List Page) (n : ℕ) (bs : List ℕ) : Type 0 where
  pub reads : (page_at ps n).content ≡ bytes bs
  pub faultless : first_fault (length ps) n bs ts ≡ Ok tt

-- and more pages are wanted than there are addresses
pub record TooMany (s : Setting) (g : Graph) (n : ℕ) : Type 0 where
  pub held : List ℕ
  pub lawful : LawfulPage s.types g.pages n held
  pub more : s.addresses < wanted_count s g n held

-- an opening is refused with 18 exactly where too many pages are wanted and nothing earlier refuses it
pub record RunsOut (s : Setting) (g : Graph) (n : ℕ) : Type 0 where
  pub refused : TooMany s g n → opening s g n ≡ Err (fault NoAddresses 4 (on_page n))
  pub only : (e : Fault) → opening s g n ≡ Err e → e.cause ≡ 18 → TooMany s g n

abbrev pub EighteenExactly : Type 0
EighteenExactly = (s : Setting) (g : Graph) (n : ℕ) → AllWhole g.pages → RunsOut s g n

-- a call is refused with 18 exactly where it comes to open a page for which too many are wanted
pub record RunsOutAt (s : Setting) (g : Graph) (c : Call) : Type 0 where
  pub refused : (n : ℕ) → Opens s g c n → TooMany s g n → (l : Place) × ((step s g c).0 ≡ Err (via l (fault NoAddresses 4 (on_page n))))
  pub only : (e : Fault) → (step s g c).0 ≡ Err e → e.cause ≡ 18 → Opens s g c e.place.page × TooMany s g e.place.page

abbrev pub EighteenAtCalls : Type 0
EighteenAtCalls = (s : Setting) (g : Graph) (c : Call) → AllWhole g.pages → RunsOutAt s g c
