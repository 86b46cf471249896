use Rattle.std.proofs.Common.{◌<◌, ◌≤◌, true, sym, ◌∙◌, arith}
use Rattle.store.specs.Pages.{page_count}
use Rattle.store.proofs.Cuts.{paged_bounds}
use Rattle.store.proofs.row.Row.start_of.Goals as goal

bounds : (c : goal.Else-not-has_page) → (0 < c.args.n) × (c.args.n ≤ page_count c.args.self.now.bytes.now)
bounds c = paged_bounds true c.args.self.now.bytes.now c.args.n (sym (c.has_page.ensures true) ∙ c.if-not-has_page.false)

pub overflow_sub-result : goal.overflow_sub-result
overflow_sub-result c = let b = bounds c in omega arith

pub overflow_mul-result : goal.overflow_mul-result
overflow_mul-result c = let b = bounds c in omega arith

pub returns-clause-inside : goal.returns-clause-inside
returns-clause-inside c = let b = bounds c in omega arith
