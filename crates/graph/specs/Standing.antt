-- Lawful pages and the objects on which cursors stand, over runs. Assumes nothing.
use Rattle.std.specs.Prelude.{◌≡◌, ℕ, ◌≤◌, true, List, length, Some, None, slice_index_or}
use Rattle.page.specs.declared.descriptor.Descriptor.{Descriptor}
use Rattle.store.specs.Pages.{Page}
use Rattle.graph.specs.declared.calls.Call.{Call}
use Rattle.page.specs.declared.link.Position.{Position}
use Rattle.graph.specs.Graphs.{Graph, Setting, opened}
use Rattle.graph.specs.Laws.{AllWhole, LawfulPage}
use Rattle.graph.specs.Steps.{starts_at, final}

-- at most 32 types and 1,024 pages, all whole
pub record Limits (s : Setting) (ps : List Page) : Type 0 where
  pub types : length s.types ≤ 32
  pub pages : length ps ≤ 1024
  pub whole : AllWhole ps

-- an object of a readable and lawful page starts there
pub record Object (ts : List Descriptor) (ps : List Page) (at : Position) : Type 0 where
  pub held : List ℕ
  pub lawful : LawfulPage ts ps at.page held
  pub begins : starts_at ts held at.cell ≡ true

-- every cursor that is not empty stands on an object
abbrev pub OnObjects : List Descriptor → Graph → Type 0
OnObjects ts g = (c : ℕ) (at : Position) → slice_index_or g.cursors c None ≡ Some at → Object ts g.pages at

-- page n is lawful, and the objects of the bytes bs still start where they did
pub record StaysLawful (ts : List Descriptor) (ps : List Page) (n : ℕ) (bs : List ℕ) : Type 0 where
  pub held : List ℕ
  pub lawful : LawfulPage ts ps n held
  pub begins : (k : ℕ) → starts_at ts bs k ≡ true → starts_at ts held k ≡ true

-- a page that is lawful at opening is lawful after any run, and its objects start where they did
abbrev pub LawfulKept : Type 0
LawfulKept =
    (s : Setting) (ps : List Page) (cs : List Call) (n : ℕ) (bs : List ℕ) → Limits s ps → LawfulPage s.types ps n bs → StaysLawful s.types (final s (opened ps) cs).pages n bs

-- after any run, each cursor that is not empty stands on an object
abbrev pub CursorsStand : Type 0
CursorsStand =
    (s : Setting) (ps : List Page) (cs : List Call) (c : ℕ) (at : Position) → Limits s ps → slice_index_or (final s (opened ps) cs).cursors c None ≡ Some at → Object s.types (final s (opened ps) cs).pages at
