use Rattle.std.proofs.Common.{refl, rules}
use Rattle.policy.specs.Turns.{span}
use Rattle.policy.proofs.Walking.{chance_later, chance_rest}
use Rattle.policy.proofs.round.RoundRobin.second_turn.Goals as goal

pub returns-in-Some : goal.returns-in-Some
returns-in-Some c =
    let f = c.args.self.now.frames in
    let next = c.args.self.now.next in
    let a = c.in-Some.ensures in
    let went = chance_later c.args.occupied.now c.args.touched.now c.pass.new.touched f next c.in-Some.later a.found.0 (a.taken f (span 0 next)) in
    record { below = a.found.0; answer = search rules; exact = went.0; left = went.1 }

pub returns : goal.returns
returns c =
    let f = c.args.self.now.frames in
    let next = c.args.self.now.next in
    let b = c.pass-2.ensures in
    let went = chance_rest c.args.occupied.now c.args.touched.now c.pass.new.touched c.pass-2.new.touched f next c.pass-2.result c.or_else.result _ c.args.self.now.within (c.in_default.ensures.passed refl f (span 0 next)) b.found b.taken b.passed c.or_else.ensures (λ p. search rules) in
    record { below = search rules; answer = search rules; exact = went.0; left = went.1 }
