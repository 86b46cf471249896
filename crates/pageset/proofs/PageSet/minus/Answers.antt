use Rattle.std.proofs.Common.{get_or, not, ◌&&◌, refl, rules}
use Rattle.pageset.proofs.Digits.{less, bit_minus, minus_lt}
use Rattle.pageset.proofs.Filled.{filled}
use Rattle.pageset.proofs.Members.{holds_each, words_each}
use Rattle.pageset.proofs.PageSet.minus.Goals as goal

pub invariant_of-result : goal.invariant_of-result
invariant_of-result c =
    let s = c.args.self.now in
    let o = c.args.other.now in
    let r = c.from_fn.ensures.items in
    let each = filled _ (λ i. less (get_or s.words i 0) (get_or o.words i 0)) _ (λ i y q e. search rules) c.from_fn.result 16 r in
    record { sized = r.long; bits = words_each less (λ x y. x && not y) refl bit_minus minus_lt s.words o.words c.from_fn.result s.sized o.sized r.long s.bits o.bits each }

pub returns : goal.returns
returns c =
    let s = c.args.self.now in
    let o = c.args.other.now in
    let r = c.from_fn.ensures.items in
    let each = filled _ (λ i. less (get_or s.words i 0) (get_or o.words i 0)) _ (λ i y q e. search rules) c.from_fn.result 16 r in
    holds_each less (λ x y. x && not y) refl bit_minus minus_lt s.words o.words c.from_fn.result s.sized o.sized r.long s.bits o.bits each
