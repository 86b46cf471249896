use Rattle.std.proofs.Common.{◌*◌, ◌%◌, ◌^◌, get_or, ◌∙◌, arith}
use Rattle.std.proofs.lemmas.Nat.{or_lt}
use Rattle.std.proofs.lemmas.List.{length-set}
use Rattle.pageset.proofs.Digits.{with_bit, with_same, with_other}
use Rattle.pageset.proofs.Members.{changed_there, changed_others, words_set}
use Rattle.pageset.proofs.PageSet.add.Goals as goal

pub invariant_of-self : goal.invariant_of-self
invariant_of-self c =
    let t = c.args.self.now in
    let i = c.in-Some.word in
    let j = c.in-Some.bit in
    record {
      sized = simp length-set t.sized;
      bits = words_set t.words i _ t.bits (or_lt 64 (get_or t.words i 0) (1 * 2 ^ j % 2 ^ 64) (t.bits i) (omega arith));
    }

pub returns-in-Some-clause-added : goal.returns-in-Some-clause-added
returns-in-Some-clause-added c p q =
    let t = c.args.self.now in
    let i = c.in-Some.word in
    let j = c.in-Some.bit in
    let w = get_or t.words i 0 in
    let at = c.in-Some.ensures in
    changed_there t.words c.args.page i j (with_bit w j) t.sized at (λ b l d. with_other w j b (omega arith) d) ∙ with_same w j (omega arith)

pub returns-in-Some-clause-others : goal.returns-in-Some-clause-others
returns-in-Some-clause-others c =
    let t = c.args.self.now in
    let i = c.in-Some.word in
    let j = c.in-Some.bit in
    let w = get_or t.words i 0 in
    let at = c.in-Some.ensures in
    changed_others t.words c.args.page i j (with_bit w j) t.sized at (λ b l d. with_other w j b (omega arith) d)
