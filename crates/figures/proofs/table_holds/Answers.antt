use Rattle.std.proofs.Common.{refl}
use Rattle.checks.specs.Layer.{check}
use Rattle.page.specs.Cells.{cell_at}
use Rattle.figures.proofs.table_holds.Goals as goal

pub returns : goal.returns
unfolding cell_at check
returns c = (refl, (refl, (refl, (refl, (refl, (refl, (refl, (refl, (refl, (refl, (refl, (refl, (refl, (refl, (refl, (refl, (refl, (refl, (refl, (refl, (refl, (refl, ((refl, refl), tt)))))))))))))))))))))))
