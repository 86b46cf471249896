use Rattle.std.proofs.Common.{◌+◌, ◌-◌, Ok, rules}
use Rattle.page.specs.Parts.{Remaining, head_part, parts_from}
use Rattle.page.specs.Types.{types}
use Rattle.page.proofs.Whole.{faithful_as}
use Rattle.page.proofs.reader.Reader.new.Goals as goal

pub returns-clause-faithful : goal.returns-clause-faithful
returns-clause-faithful c =
    let a = c.args in
    let ts = types a.catalogue.now in
    let u = c.cell_at.result in
    let l : Remaining = head_part a.page u (parts_from ts a.pages a.page a.bytes.now u 1 (u + 1 - 1) 0) in
    faithful_as ts a.pages a.page a.bytes.now (Ok l) (search rules)
