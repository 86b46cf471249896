use Rattle.std.proofs.Common.{sym}
use Rattle.page.specs.Types.{types}
use Rattle.frame.specs.Links.{pointer}
use Rattle.frame.proofs.Fields.{field_set}
use Rattle.frame.proofs.frame.Frame.set_field.Goals as goal

pub returns-clause-stored : goal.returns-clause-stored
returns-clause-stored c pages =
    let x = c.args.self.now in
    field_set (types c.args.catalogue.now) (pointer pages) x.cells c.args.cell c.args.field c.args.value x.whole (sym c.if-not-has_field.ensures.value)
