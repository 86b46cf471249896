use Rattle.std.proofs.Common.{replicate}
use Rattle.pageset.proofs.Members.{holds_none, zeros}
use Rattle.pageset.proofs.PageSet.new.Goals as goal

pub returns : goal.returns
returns c n = holds_none (replicate 16 0) n (zeros 16)
