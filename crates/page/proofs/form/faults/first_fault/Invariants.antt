use Rattle.std.proofs.Common.{◌≡◌, length}
use Rattle.std.specs.Result.{result_err}
use Rattle.page.specs.Form.{examined}
use Rattle.page.specs.Types.{types, remaining}
use Rattle.page.proofs.form.faults.first_fault.Given as goal

abbrev pub invariant-loop-part : goal.invariant-loop-part
invariant-loop-part l = (remaining l.reader).fault ≡ result_err (examined l.pages l.page l.bytes (types l.catalogue))

abbrev pub decreases-loop-part : goal.decreases-loop-part
decreases-loop-part l = length (remaining l.reader).parts
