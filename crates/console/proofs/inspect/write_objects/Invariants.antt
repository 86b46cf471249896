use Rattle.std.proofs.Common.{length}
use Rattle.page.specs.Types.{remaining}
use Rattle.console.proofs.inspect.write_objects.Given as goal

abbrev pub decreases-loop-cell : goal.decreases-loop-cell
decreases-loop-cell g l = length (remaining l.reader).parts
