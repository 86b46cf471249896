use Rattle.std.proofs.Common.{◌≡◌, take}
use Rattle.page.specs.Descriptors.{declare_all}
use Rattle.page.specs.Types.{types_so_far}
use Rattle.page.proofs.studio.declare_all.Given as goal

abbrev pub invariant-loop-descriptor : goal.invariant-loop-descriptor
invariant-loop-descriptor l = types_so_far l.catalogue ≡ declare_all (types_so_far l.initial.catalogue) (take l.descriptor-index l.table)
