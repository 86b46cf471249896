use Rattle.std.proofs.Common.{ap, ◌∙◌}
use Rattle.std.specs.Option.{unwrap_or}
use Rattle.page.specs.Descriptors.{declared}
use Rattle.page.specs.Types.{types}
use Rattle.pool.proofs.Looks.{starts_within, header_is, header_declared}
use Rattle.pool.proofs.pool.Pool.header.Goals as goal

pub returns : goal.returns
returns g c f x =
    let s = c.args.self.now in
    let at = c.unwrap_or.ensures ∙ ap (λ o. unwrap_or o 0) (c.number.ensures f x.has (starts_within s c.args.k f c.args.cell x)) in (
      at ∙ header_is s c.args.k f c.args.cell x,
      ap (declared (types s.catalogue)) at ∙ header_declared s c.args.k f c.args.cell x,
    )
