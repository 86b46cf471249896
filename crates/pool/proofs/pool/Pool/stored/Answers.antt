use Rattle.std.proofs.Common.{ℕ, ◌+◌, cond, get_or, ap, ◌∙◌}
use Rattle.std.specs.Option.{unwrap_or}
use Rattle.page.specs.Descriptors.{linked}
use Rattle.page.specs.declared.descriptor.Descriptor.{Descriptor}
use Rattle.frame.specs.Links.{pointer}
use Rattle.pool.proofs.Looks.{field_within, field_stored}
use Rattle.pool.proofs.pool.Pool.stored.Goals as goal

pub returns : goal.returns
returns g c f x l =
    let s = c.args.self.now in
    let n : ℕ = c.args.cell in
    let i : ℕ = c.args.field in
    let y : ℕ = get_or f.cells (n + 1 + i) 0 in
    c.to_pointer.ensures
    ∙ ap (λ y. cond c.is_link-link.result (pointer s.table.page_of y) y) (c.unwrap_or-number.ensures ∙ ap (λ o. unwrap_or o 0) (c.in_field.ensures f x.has (field_within s c.args.k f n i x l)))
    ∙ ap (λ b. cond b (pointer s.table.page_of y) y) (c.is_link-link.ensures ∙ ap (λ (d : Descriptor). linked d i) (c.kind.ensures f x))
    ∙ field_stored s c.args.k f n i x l
