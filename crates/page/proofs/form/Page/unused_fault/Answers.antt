use Rattle.std.proofs.Common.{Some, None, sym, ◌≡◌, ◌≢◌, ◌+◌, ◌-◌, arith, rules, tests}
use Rattle.std.proofs.lemmas.Iterator.{first_from_Range}
use Rattle.page.specs.Cells.{cell_at}
use Rattle.page.proofs.Steps.{unused_none, unused_some}
use Rattle.page.proofs.form.Page.unused_fault.Goals as goal

pub returns-in-Some : goal.returns-in-Some
returns-in-Some c =
    let bs = c.args.self.now.bytes.now in
    let f = first_from_Range (record { start = c.args.used + 1; end = 64 }) _ _ (Some c.in-Some.cell) (λ i. cell_at bs i ≢ 0) (λ i. cell_at bs i ≡ 0) c.in-Some.ensures.ran (λ x q k. grind (arith, tests)) (λ x q k. (search rules, grind (arith, tests))) in
    rw (unused_some c.args.self.now.number bs (c.args.used + 1) (63 - c.args.used) c.in-Some.cell f.0 (omega (arith, f.1)) f.2 f.3) (search rules)

pub returns : goal.returns
returns c =
    let bs = c.args.self.now.bytes.now in
    let f = first_from_Range (record { start = c.args.used + 1; end = 64 }) _ _ None (λ i. cell_at bs i ≢ 0) (λ i. cell_at bs i ≡ 0) c.in_default.ensures.ran (λ x q k. grind (arith, tests)) (λ x q k. (search rules, grind (arith, tests))) in
    sym (unused_none c.args.self.now.number bs (c.args.used + 1) (63 - c.args.used) (λ i a b. f i a (omega arith)))
