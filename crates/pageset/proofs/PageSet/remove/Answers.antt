use Rattle.std.proofs.Common.{get_or, ◌∙◌, arith}
use Rattle.pageset.proofs.Digits.{without_bit, without_same, without_other}
use Rattle.pageset.proofs.Members.{changed_there, changed_others, holds_nowhere}
use Rattle.pageset.proofs.PageSet.remove.Goals as goal

pub returns-in-Some-clause-gone : goal.returns-in-Some-clause-gone
returns-in-Some-clause-gone c =
    let t = c.args.self.now in
    let i = c.in-Some.word in
    let j = c.in-Some.bit in
    let w = get_or t.words i 0 in
    let at = c.in-Some.ensures in
    changed_there t.words c.args.page i j (without_bit w j) t.sized at (λ b l d. without_other w j b (omega arith) l d) ∙ without_same w j (omega arith)

pub returns-in-Some-clause-others : goal.returns-in-Some-clause-others
returns-in-Some-clause-others c =
    let t = c.args.self.now in
    let i = c.in-Some.word in
    let j = c.in-Some.bit in
    let w = get_or t.words i 0 in
    let at = c.in-Some.ensures in
    changed_others t.words c.args.page i j (without_bit w j) t.sized at (λ b l d. without_other w j b (omega arith) l d)

pub returns-in_default-clause-gone : goal.returns-in_default-clause-gone
returns-in_default-clause-gone c = holds_nowhere c.args.self.now.words c.args.page c.args.self.now.sized c.in_default.ensures
