use Rattle.std.proofs.Common.{◌≡◌, ◌+◌, length, sym, refl, ap, ◌∙◌, subst, arith}
use Rattle.checks.specs.Layer.{checked_count}
use Rattle.checks.specs.Seals.{sealed, stale_count, Sealed, sealed_layer}
use Rattle.checks.proofs.Seals.{part_none, part_sealed, part_all}
use Rattle.checks.proofs.Checks.seal.Goals as goal

pub loop-n-init : goal.loop-n-init
loop-n-init g c = record { kept = refl; part = part_none (g.S.Store.pages c.count-below.new.self) }

pub loop-n-preserved : goal.loop-n-preserved
loop-n-preserved g c = record {
  kept = c.seal_page-changed.ensures.kept ∙ c.loop-n.invariant.kept;
  part = part_sealed g.S.Store.layer (g.S.Store.pages c.count-below.new.self) _ _ _ _ c.loop-n.changed c.loop-n.n _ (c.count-below.ensures.value ∙ ap length (sym c.count-below.ensures.same)) c.checked_count-n-end.ensures c.loop-n.auto.n c.loop-n-test.true
      (g.S.Store.laws.whole c.loop-n.self.lower) c.loop-n.invariant.part c.seal_page-changed.ensures.after c.seal_page-changed.ensures.value c.seal_page-changed.ensures.small;
}

pub returns : goal.returns
returns g c =
    let ps = g.S.Store.pages c.count-below.new.self in
    let part = c.loop-n.invariant.part in
    let below = c.checked_count-n-end.ensures ∙ ap checked_count (c.count-below.ensures.value ∙ ap length (sym c.count-below.ensures.same)) in
    let end : c.loop-n.n ≡ checked_count (length ps) + 1 = omega (arith, below, part.within) in
    let all = part_all (g.S.Store.pages c.count-below.new.self) _ _ _ end part in
    record {
      value = all.value ∙ ap stale_count c.count-below.ensures.same;
      after = all.after ∙ ap sealed c.count-below.ensures.same;
      cells = subst (λ q. Sealed q (g.S.Store.pages c.loop-n.self.lower)) c.count-below.ensures.same all.cells;
      layer = all.layer ∙ ap sealed_layer c.count-below.ensures.same;
      kept = c.loop-n.invariant.kept ∙ c.count-below.ensures.kept;
    }

pub returns-2 : goal.returns-2
returns-2 g c =
    let ps = g.S.Store.pages c.count-below.new.self in
    let part = part_sealed g.S.Store.layer (g.S.Store.pages c.count-below.new.self) _ _ _ _ c.loop-n.changed c.loop-n.n _ (c.count-below.ensures.value ∙ ap length (sym c.count-below.ensures.same)) c.checked_count-n-end.ensures c.loop-n.auto.n c.loop-n-test.true (g.S.Store.laws.whole c.loop-n.self.lower) c.loop-n.invariant.part c.seal_page-changed.ensures.after c.seal_page-changed.ensures.value c.seal_page-changed.ensures.small in
    let below = c.checked_count-n-end.ensures ∙ ap checked_count (c.count-below.ensures.value ∙ ap length (sym c.count-below.ensures.same)) in
    let end : c.loop-n.n + 1 ≡ checked_count (length ps) + 1 = omega (arith, below) in
    let all = part_all (g.S.Store.pages c.count-below.new.self) _ _ _ end part in
    record {
      value = all.value ∙ ap stale_count c.count-below.ensures.same;
      after = all.after ∙ ap sealed c.count-below.ensures.same;
      cells = subst (λ q. Sealed q (g.S.Store.pages c.seal_page-changed.new.self.lower)) c.count-below.ensures.same all.cells;
      layer = all.layer ∙ ap sealed_layer c.count-below.ensures.same;
      kept = c.seal_page-changed.ensures.kept ∙ c.loop-n.invariant.kept ∙ c.count-below.ensures.kept;
    }
