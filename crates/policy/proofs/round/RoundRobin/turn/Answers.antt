use Rattle.std.proofs.Common.{◌-◌, false, get_or, refl, sym, subst, rules}
use Rattle.std.proofs.lemmas.Iterator.{YieldsList-from_range}
use Rattle.std.proofs.lemmas.Iterator.Consumers.{YieldsList-from_chain}
use Rattle.std.proofs.lemmas.Iterator.Search.{find_from_yields_List}
use Rattle.policy.specs.Answers.{Answer}
use Rattle.policy.proofs.Walking.{round_answer, round_is}
use Rattle.policy.proofs.round.RoundRobin.turn.Goals as goal
use borrow.Author.Tests.{tests}

exact : goal.returns-clause-exact
exact c =
    let p = c.args.self.now in
    round_is c.args.occupied.now p.frames p.next c.find.result
    (find_from_yields_List (λ k. get_or c.args.occupied.now k false) _ _ c.find.result c.find.ensures.ran
    (YieldsList-from_chain (YieldsList-from_range p.next p.frames (p.frames - p.next) (cc) refl) (YieldsList-from_range 0 p.next (p.next - 0) (cc) refl) (cc) (cc))
    (λ x b q k. search (rules, tests)))

pub returns-clause-answer : goal.returns-clause-answer
returns-clause-answer c =
    let p = c.args.self.now in
    subst (λ r. Answer c.args.occupied.now p.frames r) (sym (exact c)) (round_answer c.args.occupied.now p.frames p.next p.within)

pub returns-clause-exact : goal.returns-clause-exact
returns-clause-exact c = exact c
