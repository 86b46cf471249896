use Rattle.std.proofs.Common.{arith}
use Rattle.std.proofs.lemmas.Option.{IfSome_then}
use Rattle.pageset.specs.Sets.{holds}
use Rattle.pool.specs.Needs.{whole}
use Rattle.pool.proofs.Frames.{tally_same}
use Rattle.pool.proofs.pool.Pool.ready.Goals as goal

pub returns-clause-fits : goal.returns-clause-fits
returns-clause-fits g c =
    let s = c.args.self.now in
    let t = tally_same (holds c.whole.result.words) (whole (holds c.args.asked.now.words) s.frames) 1024 (λ k _ _. c.whole.ensures k) in
    IfSome_then c.vacant.result c.vacant.ensures.found (λ k x. record {
      free = (k, x);
      fits = omega (arith, t, c.count.ensures, c.size.ensures, c.if-count-from.false);
    })
