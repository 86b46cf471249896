use Rattle.std.proofs.Common.{[], length, ap, arith}
use Rattle.page.specs.Parts.{Remaining}
use Rattle.page.specs.Types.{remaining, part_of}
use Rattle.inspection.specs.Surveys.{empty}
use Rattle.inspection.proofs.Counts.{one_more}
use Rattle.console.proofs.inspect.write_objects.Goals as goal

pub loop-cell-smaller : goal.loop-cell-smaller
loop-cell-smaller g c =
    let l = remaining c.loop-cell.reader in
    let x = part_of c.in-Some-Ok-Object.field-0-0 in
    let h = rw c.in-Some-Ok-Object.field-0-is at c.in-Some-Ok-Object.ensures.part in
    let one = one_more [] empty l.parts l.fault x h in
    let after = ap (λ (r : Remaining). length r.parts) c.step.ensures.after in
    omega (arith, one.1, after)
