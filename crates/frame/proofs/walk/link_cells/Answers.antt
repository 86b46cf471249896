use Rattle.std.proofs.Common.{false, get_or, set, sym, ap, ◌∙◌, length-set, arith}
use Rattle.std.proofs.lemmas.List.{ext_get_or}
use Rattle.std.proofs.lemmas.List.Edits.{fill_by_more}
use Rattle.page.specs.Types.{types}
use Rattle.page.specs.Walks.{link_cells}
use Rattle.frame.proofs.Walks.{links_step, length_link_cells}
use Rattle.frame.proofs.walk.link_cells.Goals as goal

pub loop-i-preserved : goal.loop-i-preserved
loop-i-preserved c =
    let ts = types c.args.catalogue.now in
    let xs = c.args.cells.now in
    let bs = link_cells ts xs in
    let i = c.loop-i.i in
    let ls = c.loop-i.links in
    let was = c.loop-i.invariant in
    let s = links_step ts bs xs i c.loop-i.fields (omega arith) was.2 in (
      length-set ls i _ ∙ was.0,
      (λ k h. ap (λ b. get_or (set ls i b) k false) (c.link_next.ensures ∙ sym s.0) ∙ fill_by_more (λ j. get_or bs j false) ls i false (omega arith) was.1 k h),
      simp c.after-fields.ensures s.1,
    )

pub returns : goal.returns
returns c =
    let ts = types c.args.catalogue.now in
    let xs = c.args.cells.now in
    let was = c.loop-i.invariant in
    ext_get_or false c.loop-i.links (link_cells ts xs) (was.0 ∙ sym (length_link_cells ts xs ∙ c.told-cells)) (λ k h. was.1 k (omega arith))
