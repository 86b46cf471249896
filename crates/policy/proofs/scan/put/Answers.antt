use Rattle.std.proofs.Common.{sym, arith}
use Rattle.std.proofs.lemmas.List.{set_past}
use Rattle.policy.proofs.scan.put.Goals as goal

pub returns-else-frame-lt-MOST_FRAMES : goal.returns-else-frame-lt-MOST_FRAMES
returns-else-frame-lt-MOST_FRAMES c = sym (set_past c.args.marks.now c.args.frame c.args.value (omega arith))
