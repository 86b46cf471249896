use Rattle.std.proofs.Common.{◌%◌, ◌^◌, ◌<◌, ◌≤◌, eqb, sym, ap, ◌∙◌, arith, pow_mono, rules}
use native.Mathlib.Nat.{div-eq_of_lt}
use Rattle.std.proofs.lemmas.Bool.{le-ltb}
use Rattle.page.proofs.descriptor.Descriptor.is_link.Goals as goal

pub returns-else-field-lt64 : goal.returns-else-field-lt64
returns-else-field-lt64 c =
    let m = c.args.self.mask in
    let f = c.args.field in
    let past : 64 ≤ f = c.if-field-lt64.false in
    let fits : m < 2 ^ 64 = search rules in
    let below : m < 2 ^ f = omega (arith, pow_mono past) in
    le-ltb f 64 past ∙ sym (ap (λ q. eqb (q % 2) 1) (div-eq_of_lt below))
