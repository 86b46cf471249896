use Rattle.std.proofs.Common.{◌+◌, ◌*◌, ◌≤◌, length, get_or, ap, ◌∙◌, arith}
use Rattle.page.proofs.Rounds.{length_put}
use Rattle.frame.proofs.Packs.{put_more}
use Rattle.frame.proofs.bytes.bytes_of.Goals as goal

pub loop-i-preserved : goal.loop-i-preserved
loop-i-preserved c =
    let i = c.loop-i.i in
    let bs = c.loop-i.bytes in
    let xs = c.args.cells.now in
    let x = get_or xs i 0 in
    let fits : 8 * i + 8 ≤ length bs = omega arith in
    (ap length c.put_number.ensures ∙ length_put bs i x fits ∙ c.loop-i.invariant.0, c.put_number.ensures ∙ put_more xs bs i (omega arith) (omega arith) c.loop-i.invariant.1)
