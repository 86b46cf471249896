use Rattle.std.proofs.Common.{◌<◌, length, get_or, Some, None, refl, sym, ap, ◌∙◌, subst, arith}
use Rattle.std.proofs.lemmas.List.{get_or_default, set-get_or, length-set}
use Rattle.address.specs.declared.table.AddressTable.{AddressTable}
use Rattle.page.specs.Types.{types}
use Rattle.page.specs.declared.catalogue.ClosedCatalogue.{ClosedCatalogue}
use Rattle.stands.proofs.Layers.{has_within, none_some}
use Rattle.pool.specs.Leaving.{put_back}
use Rattle.pool.specs.Meaning.{Fine}
use Rattle.pool.specs.Needs.{needed, Covers}
use Rattle.pool.proofs.Bringing.{spare_new}
use Rattle.pool.proofs.Saves.{held_below, covers_same, clean_some, clean_none, saved_one, all_saved, clean_more, cleaning_more, cleaning_over}
use Rattle.pool.proofs.pool.Pool.save.Goals as goal
use Rattle.pool.proofs.pool.Pool.save.Goals.{in-Some, in_default}

pub loop-held-preserved : goal.loop-held-preserved
loop-held-preserved g c =
    let e = c.args.self.now in
    let v = c.loop-held.invariant in
    let k = c.loop-held.held-index in
    let fs = c.loop-held.held-items in
    let ts = types e.catalogue in
    let ps = g.S.Store.pages c.loop-held.self.1.0 in
    let h : k < length fs = omega arith in
    let at = get_or_default fs k None c.held-item.result h in
    elim c.match-held.branch [
      | in-Some w ↦ (
          let f = w.in-Some.frame in
          let here = at ∙ w.in-Some.is in
          let clean = clean_some fs k f _ here (record { page = refl; changed = refl; cells = refl }) refl in
          let one = saved_one ts e.table.slot_of e.table.page_of e.pages (g.V.Policy.frames e.policy) e.count ps fs k v.5 (g.S.Store.pages w.write_back.new.store) _ (Some f) here clean
          (w.write_back.ensures ∙ ap (λ (y : ClosedCatalogue). put_back (types y) c.loop-held.self.1.1.1.1.0.page_of (Some f) ps) v.1 ∙ ap (λ (y : AddressTable). put_back ts y.page_of (Some f) ps) v.2) in
          rw (w.self-is, w.held-items-is) (
            refl,
            v.1,
            v.2,
            refl,
            refl,
            one.fine,
            one.stands ∙ v.6,
            clean_more fs _ k clean v.7 one.clean,
            spare_new fs e.count k _ (held_below fs e.count k f v.8 here) v.8,
            covers_same e.table.slot_of fs k f _ here refl v.9,
            length-set fs k _ ∙ v.10,
            cleaning_more e.frames fs _ k v.11 clean,
          ))
      | in_default w ↦ (
          let same = set-get_or fs k c.held-item.result in
          let none = clean_none fs k (at ∙ w.in_default.is) in
          rw (w.self-is, w.held-items-is, same) (
            refl,
            v.1,
            v.2,
            refl,
            refl,
            v.5,
            v.6,
            clean_more fs fs k none v.7 (λ f x. absurd (none_some (get_or fs k None) f (at ∙ w.in_default.is) x)),
            v.8,
            v.9,
            v.10,
            cleaning_more e.frames fs fs k v.11 none,
          ))
    ]

pub returns-clause-saved : goal.returns-clause-saved
returns-clause-saved g c =
    let e = c.args.self.now in
    let v = c.loop-held.invariant in
    let fs = c.loop-held.held-items in
    all_saved (types e.catalogue) e.table.slot_of e.table.page_of e.pages (g.V.Policy.frames e.policy) e.count (g.S.Store.pages e.store) e.frames (g.S.Store.pages c.loop-held.self.1.0) fs v.5 v.6
    (λ j f h. v.7 j (omega (arith, has_within fs j f h)) f h)

pub returns-clause-frames : goal.returns-clause-frames
returns-clause-frames g c =
    let e = c.args.self.now in
    cleaning_over e.frames c.loop-held.held-items c.loop-held.held-index (omega arith) c.loop-held.invariant.11

pub invariant_of-self-clause-sized : goal.invariant_of-self-clause-sized
invariant_of-self-clause-sized g c = c.loop-held.invariant.10

pub invariant_of-self-clause-spare : goal.invariant_of-self-clause-spare
invariant_of-self-clause-spare g c = c.loop-held.invariant.8

pub invariant_of-self-clause-covered : goal.invariant_of-self-clause-covered
invariant_of-self-clause-covered g c =
    subst (λ (y : AddressTable). Covers y.slot_of (needed c.loop-held.held-items)) (sym c.loop-held.invariant.2) c.loop-held.invariant.9

pub invariant_of-self-clause-tied : goal.invariant_of-self-clause-tied
invariant_of-self-clause-tied g c =
    let e = c.args.self.now in
    let v = c.loop-held.invariant in
    let fs = c.loop-held.held-items in
    let ps = g.S.Store.pages c.loop-held.self.1.0 in
    subst (λ (y : ClosedCatalogue). Fine (types y) c.loop-held.self.1.1.1.1.0.slot_of c.loop-held.self.1.1.1.1.0.page_of ps fs e.pages (g.V.Policy.frames e.policy) e.count) (sym v.1)
    (subst (λ (y : AddressTable). Fine (types e.catalogue) y.slot_of y.page_of ps fs e.pages (g.V.Policy.frames e.policy) e.count) (sym v.2) v.5)
