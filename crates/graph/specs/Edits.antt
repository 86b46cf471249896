-- Edits, made on pages alone. Assumes nothing.
use Rattle.std.specs.Prelude.{ℕ, zero, suc, ◌+◌, ◌%◌, ◌^◌, Bool, false, cond, ◌||◌, List, [], ◌∷◌, ◌++◌, Some, None, Ok, Err, Option, ◌==◌, slice_index_or, slice_set}
use Rattle.page.specs.declared.descriptor.Descriptor.{Descriptor}
use Rattle.page.specs.Cells.{put_cell}
use Rattle.page.specs.Descriptors.{type_of}
use Rattle.store.specs.Pages.{Content, bytes, marked, Page, no_page}
use Rattle.graph.specs.declared.calls.Call.{Call}
use Rattle.graph.specs.declared.calls.Call.TheVariants.{Note, Join, Part, Add}
use Rattle.page.specs.declared.link.Position.{Position}
use Rattle.graph.specs.declared.calls.Value.{Value}
use Rattle.graph.specs.declared.calls.Value.TheVariants.{Number}
use Rattle.graph.specs.Graphs.{Graph, Setting}
use Rattle.graph.specs.Steps.{Answer, pointer, step}

-- numbers put into cells of one page, one after another
pub record Edit : Type 0 where
  pub page : ℕ
  -- a cell, and what is put there
  pub puts : List (ℕ × ℕ)

abbrev pub put_all : List (ℕ × ℕ) → List ℕ → List ℕ
put_all [] bs = bs
put_all (p ∷ ps) bs = put_all ps (put_cell bs p.0 p.1)

abbrev pub changed_bytes : List (ℕ × ℕ) → Content → Content
changed_bytes xs (bytes bs) = bytes (put_all xs bs)
changed_bytes xs (marked cause layer) = marked cause layer

abbrev pub changed_page : List (ℕ × ℕ) → Page → Page
changed_page xs p = record { content = changed_bytes xs p.content; writable = p.writable }

abbrev pub changed : ℕ → List (ℕ × ℕ) → List Page → List Page
changed zero xs ps = ps
changed (suc i) xs ps = slice_set ps i (changed_page xs (slice_index_or ps i no_page))

-- the pages with the edits made in order
abbrev pub made : List Edit → List Page → List Page
made [] ps = ps
made (e ∷ es) ps = made es (changed e.page e.puts ps)

-- some edit names page n
abbrev pub touched : List Edit → ℕ → Bool
touched [] n = false
touched (e ∷ es) n = n == e.page || touched es n

-- what was put last into cell k, else x; a cell takes what fits into eight bytes
abbrev pub last_put : List (ℕ × ℕ) → ℕ → ℕ → ℕ
last_put [] k x = x
last_put (p ∷ ps) k x = last_put ps k (cond (k == p.0) (p.1 % 2 ^ 64) x)

-- what the edits put last into cell k of page n, else x
abbrev pub last_of : List Edit → ℕ → ℕ → ℕ → ℕ
last_of [] n k x = x
last_of (e ∷ es) n k x = last_of es n k (cond (n == e.page) (last_put e.puts k x) x)

abbrev pub at_place : Option Position → (Position → List Edit) → List Edit
at_place None f = []
at_place (Some at) f = f at

abbrev pub number_in : Value → ℕ
number_in (Number x) = x
number_in _ = 0

-- x in field f of the object there
abbrev pub field_edit : Position → ℕ → ℕ → List Edit
field_edit at f x = record { page = at.page; puts = (at.cell + 1 + f, x) ∷ [] } ∷ []

-- an object of type t, of m fields, at cell k of page n, and the head after it
abbrev pub object_edit : ℕ → ℕ → ℕ → ℕ → List Edit
object_edit n k t m = record { page = n; puts = (k, t) ∷ (0, k + m) ∷ [] } ∷ []

-- the edit that a call makes, where the cursors stand and it answers v
abbrev pub asked : List Descriptor → List (Option Position) → Call → Value → List Edit
asked ts cs (Note c f x) v = at_place (slice_index_or cs c None) (λ at. field_edit at f x)
asked ts cs (Join c f d) v = at_place (slice_index_or cs c None) (λ at. at_place (slice_index_or cs d None) (λ to. field_edit at f (pointer to)))
asked ts cs (Part c f) v = at_place (slice_index_or cs c None) (λ at. field_edit at f 0)
asked ts cs (Add c t n) v = object_edit n (number_in v) t (type_of ts t).size
asked ts cs _ v = []

abbrev pub when_granted : Answer → (Value → List Edit) → List Edit
when_granted (Ok v) f = f v
when_granted (Err e) f = []

-- the granted edits of a run, in order
abbrev pub edits_of : Setting → Graph → List Call → List Edit
edits_of s g [] = []
edits_of s g (c ∷ cs) = when_granted (step s g c).0 (asked s.types g.cursors c) ++ edits_of s (step s g c).1 cs
