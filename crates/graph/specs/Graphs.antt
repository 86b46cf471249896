-- The state of the graph, and the opening of a page. Assumes nothing.
use Rattle.std.specs.Prelude.{ℕ, Bool, false, ◌||◌, List, [], ◌∷◌, length, replicate, Some, None, Ok, Option, ◌==◌, nat_le}
use Rattle.fault.specs.declared.kinds.Cause.TheVariants.{NoAddresses}
use Rattle.fault.specs.Faults.{on_page, fault}
use Rattle.fault.specs.Refusals.{Checked, ◌>>=◌, ◌>>◌, ◌else◌}
use Rattle.page.specs.declared.descriptor.Descriptor.{Descriptor}
use Rattle.page.specs.Form.{first_fault}
use Rattle.page.specs.Walks.{cells_of, links_to}
use Rattle.store.specs.Pages.{Page, page_at}
use Rattle.store.specs.Rules.{readable, held_by}
use Rattle.pageset.specs.Sets.{tally}
use Rattle.page.specs.declared.link.Position.{Position}

pub record Graph : Type 0 where
  pub pages : List Page
  -- sixteen, each empty or on a page and cell
  pub cursors : List (Option Position)

-- the types of a closed catalogue, and the number of addresses
pub record Setting : Type 0 where
  pub types : List Descriptor
  pub addresses : ℕ

abbrev pub opened : List Page → Graph
opened ps = record { pages = ps; cursors = replicate 16 None }

-- page m is some cursor's page
abbrev pub on_cursor : List (Option Position) → ℕ → Bool
on_cursor [] m = false
on_cursor (None ∷ cs) m = on_cursor cs m
on_cursor (Some at ∷ cs) m = m == at.page || on_cursor cs m

-- the bytes of page n, or its mark
abbrev pub fetched : List Page → ℕ → Checked (List ℕ)
fetched ps n = do
  readable (page_at ps n).content n
  Ok (held_by (page_at ps n).content [])

module _ (s : Setting) (g : Graph) where
  -- page m is wanted when page n, with the bytes bs, is opened
  abbrev pub wanted : ℕ → List ℕ → ℕ → Bool
  wanted n bs m = on_cursor g.cursors m || (m == n || links_to s.types (cells_of bs) m)

  -- how many pages are wanted; a store has at most 1,024
  abbrev pub wanted_count : ℕ → List ℕ → ℕ
  wanted_count n bs = tally (wanted n bs) 1024

  -- the bytes of page n
  abbrev pub opening : ℕ → Checked (List ℕ)
  opening n = do
    bs ← fetched g.pages n
    first_fault (length g.pages) n bs s.types
    nat_le (wanted_count n bs) s.addresses else fault NoAddresses 4 (on_page n)
    Ok bs
