use Rattle.std.proofs.Common.{◌≡◌, ◌+◌, get_or, set, sym, ap, ◌∙◌}
use Rattle.page.specs.Types.{types}
use Rattle.page.specs.Walks.{kind_of}
use Rattle.page.specs.declared.descriptor.Descriptor.{Descriptor}
use Rattle.frame.specs.Links.{unswizzled}
use Rattle.frame.proofs.Swizzles.{append_back}
use Rattle.frame.proofs.Walks.{found_kind}
use Rattle.frame.proofs.frame.Frame.append.Goals as goal

pub returns-clause-stored : goal.returns-clause-stored
returns-clause-stored c pages e =
    let xs = c.args.self.now.cells in
    let ts = types c.args.catalogue.now in
    let h = c.args.header in
    let u = get_or xs 0 0 in
    let is = found_kind ts h c.in_ok-descriptor.descriptor c.in_ok-descriptor.ensures.value in
    let size : c.in_ok-descriptor.descriptor.size ≡ (kind_of ts h).size = ap (λ (d : Descriptor). d.size) (sym is.1) in
    ap (λ n. unswizzled ts pages (set (set xs 0 (u + 1 + n)) (u + 1) h)) size ∙ append_back ts pages xs (u + 1) (u + 1 + (kind_of ts h).size) h e
