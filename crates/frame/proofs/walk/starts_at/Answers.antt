use Rattle.std.proofs.Common.{◌≡◌, ◌<◌, false, eqb, ◌&&◌, get_or, is_some, sym, ap, ◌∙◌, ⊎_elim, arith}
use Rattle.std.proofs.lemmas.List.{get_or_past}
use Rattle.std.proofs.lemmas.Bool.{eq-eqb, ne_eqb}
use Rattle.frame.specs.declared.walk.Fields.{Fields}
use Rattle.page.specs.Types.{types}
use Rattle.page.specs.Descriptors.{declared}
use Rattle.page.specs.Walks.{start_cells}
use Rattle.frame.proofs.Walks.{found_some, starts_zero, starts_there, length_start_cells}
use Rattle.frame.proofs.walk.starts_at.Goals as goal

pub returns-then-cell-eq0-clause-value : goal.returns-then-cell-eq0-clause-value
returns-then-cell-eq0-clause-value c =
    let ts = types c.args.catalogue.now in
    let xs = c.args.cells.now in
    let bs = start_cells ts xs in
    sym (⊎_elim
    (λ (e : c.args.cell ≡ 0). ap (λ j. get_or bs j false) e ∙ starts_zero ts xs)
    (λ (h : (c.args.cell ≡ 0 → ⊥) × (63 < c.args.cell)). get_or_past bs c.args.cell false (omega (arith, length_start_cells ts xs, c.told-cells)))
    c.then-cell-eq0.either)

pub returns-then-fields_at-eq0-clause-value : goal.returns-then-fields_at-eq0-clause-value
returns-then-fields_at-eq0-clause-value c =
    let ts = types c.args.catalogue.now in
    let xs = c.args.cells.now in
    let h = get_or xs c.args.cell 0 in
    let there = starts_there ts xs c.args.cell (omega arith) (omega (arith, c.told-cells)) in
    c.is_some.ensures ∙ ap is_some c.descriptor.ensures.value ∙ found_some ts h
    ∙ sym (there ∙ ap (λ (f : Fields). eqb f.left 0 && declared ts h) (sym c.fields_at.ensures) ∙ ap (λ b. b && declared ts h) (eq-eqb _ 0 c.if-fields_at-eq0.true))

pub returns-else-fields_at-eq0-clause-value : goal.returns-else-fields_at-eq0-clause-value
returns-else-fields_at-eq0-clause-value c =
    let ts = types c.args.catalogue.now in
    let xs = c.args.cells.now in
    let d = declared ts (get_or xs c.args.cell 0) in
    let there = starts_there ts xs c.args.cell (omega arith) (omega (arith, c.told-cells)) in
    let none = ne_eqb c.fields_at.result.left 0 c.if-fields_at-eq0.false in
    none ∙ sym (there ∙ ap (λ (f : Fields). eqb f.left 0 && d) (sym c.fields_at.ensures) ∙ ap (λ b. b && d) none)
