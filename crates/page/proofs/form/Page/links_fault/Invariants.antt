use Rattle.std.proofs.Common.{◌≡◌, ◌-◌}
use Rattle.page.specs.Form.{links_fault}
use Rattle.page.proofs.form.Page.links_fault.Given as goal

abbrev pub invariant-loop-field : goal.invariant-loop-field
invariant-loop-field l =
    links_fault l.self.pages l.self.number l.self.bytes.now l.descriptor l.cell 0 l.descriptor.size ≡ links_fault l.self.pages l.self.number l.self.bytes.now l.descriptor l.cell l.field (l.descriptor.size - l.field)
