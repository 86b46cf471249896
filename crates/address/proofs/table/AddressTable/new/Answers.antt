use Rattle.std.proofs.Common.{sym, refl, ◌∙◌, arith}
use Rattle.std.proofs.lemmas.Bool.{le-ltb}
use Rattle.pageset.proofs.Members.{zeros}
use Rattle.address.proofs.table.AddressTable.new.Goals as goal

pub invariant_of-result : goal.invariant_of-result
invariant_of-result c = record {
  agree = (λ k p. absurd (omega (arith, p, zeros 257 k)), λ k p. absurd (omega (arith, p, zeros 1025 k)));
  within = ((refl, refl), (omega (arith, c.min.ensures), ((λ k. omega (arith, zeros 257 k)), (λ k. omega (arith, zeros 1025 k)))));
  counted = (refl, refl);
  sized = (refl, refl);
  listed = λ k. c.new.ensures k ∙ sym (le-ltb 0 _ (omega (arith, zeros 1025 k)));
}
