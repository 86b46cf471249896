use Rattle.std.proofs.Common.{◌≡◌, ℕ, ◌&&◌, ◌||◌}
use Rattle.page.specs.Types.{types}
use Rattle.page.specs.Walks.{any_leads, links_to}
use Rattle.pageset.specs.Sets.{holds}
use Rattle.frame.specs.Links.{is_page}
use Rattle.frame.proofs.pages.linked_pages.Given as goal

-- the pages so far and those that the cells to come lead to
abbrev pub invariant-loop-link : goal.invariant-loop-link
invariant-loop-link l =
    (n : ℕ) → (holds l.pages.words n || (any_leads n l.link-iterator.a.rest.now l.link-iterator.b.rest.now && is_page n)) ≡ (links_to (types l.catalogue) l.cells n && is_page n)
