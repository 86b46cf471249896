use Rattle.std.proofs.Common.{◌<◌, ◌||◌, length, get_or, None, sym, ap, ◌∙◌, arith}
use Rattle.std.proofs.lemmas.List.{get_or_default}
use Rattle.pageset.specs.Sets.{holds}
use Rattle.pool.proofs.Frames.{need_turn, some_asks, not_held, pass_asks}
use Rattle.pool.proofs.pool.Pool.whole.Goals as goal
use Rattle.pool.proofs.pool.Pool.whole.Goals.{in-Some, in_default}

pub loop-held-preserved : goal.loop-held-preserved
loop-held-preserved g c =
    let s = c.args.self.now in
    let v = c.loop-held.invariant in
    let k = c.loop-held.held-index in
    let h : k < length s.frames = omega arith in
    let at = get_or_default s.frames k None c.held-item.result h in
    elim c.match-held.branch [
      | in-Some w ↦
          λ n. rw w.pages-is (need_turn s.frames k n _ _ _ h (v n) (w.union-pages.ensures n ∙ ap (λ b. holds c.loop-held.pages.words n || b) (sym (some_asks (get_or s.frames k None) w.in-Some.frame n (at ∙ w.in-Some.is)))))
      | in_default w ↦
          λ n. rw w.pages-is (need_turn s.frames k n _ _ _ h (v n) (pass_asks (get_or s.frames k None) n _ (not_held (get_or s.frames k None) (λ p e. w.in_default.not-Some p (sym at ∙ e)))))
    ]
