use Rattle.std.proofs.Common.{ap, ◌∙◌}
use Rattle.std.specs.Option.{unwrap_or}
use Rattle.pool.proofs.Looks.{field_within, field_shown_lem}
use Rattle.pool.proofs.pool.Pool.field.Goals as goal

pub returns : goal.returns
returns g c f x l =
    let s = c.args.self.now in
    c.unwrap_or.ensures
    ∙ ap (λ o. unwrap_or o 0) (c.in_field.ensures f x.has (field_within s c.args.k f c.args.cell c.args.field x l))
    ∙ field_shown_lem s c.args.k f c.args.cell c.args.field x l
