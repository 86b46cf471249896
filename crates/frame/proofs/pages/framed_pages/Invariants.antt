use Rattle.std.proofs.Common.{◌≡◌, ℕ, ◌&&◌, ◌||◌}
use Rattle.page.specs.Types.{types}
use Rattle.page.specs.Walks.{any_leads, links_to}
use Rattle.pageset.specs.Sets.{holds}
use Rattle.frame.specs.Links.{is_page, map_where, pointer, unswizzled}
use Rattle.frame.proofs.pages.framed_pages.Given as goal

-- the pages so far and those that the cells to come lead to, with long pointers again
abbrev pub invariant-loop-link : goal.invariant-loop-link
invariant-loop-link l =
    let rest = l.link-iterator.a.rest.now in
    (n : ℕ) → (holds l.pages.words n || (any_leads n rest (map_where (pointer l.table.page_of) rest l.link-iterator.b.rest.now) && is_page n)) ≡ (links_to (types l.catalogue) (unswizzled (types l.catalogue) l.table.page_of l.cells) n && is_page n)
