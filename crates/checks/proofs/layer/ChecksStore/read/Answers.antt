use Rattle.std.proofs.Common.{◌≡◌, ℕ, List, length, Ok, Err, sym, ap, ◌∙◌}
use Rattle.std.proofs.lemmas.Result.{err_from_is_err_and}
use Rattle.store.specs.Rules.{read_buffer}
use Rattle.store.proofs.Steps.{read_refused, held_refused}
use Rattle.checks.specs.Layer.{check_page, checked}
use Rattle.checks.specs.Calls.{verify_answer, blank}
use Rattle.checks.proofs.Parts.{refused_first, granted_first, unplaced, placed, read_is, buffer_refused, buffer_granted}
use Rattle.checks.proofs.layer.ChecksStore.read.Goals as goal

pub returns-in_err-at : goal.returns-in_err-at
returns-in_err-at g c =
    let p = err_from_is_err_and c.from_residual.result c.from_residual.ensures.1 in
    let ps = g.S.Store.pages c.args.self.now.lower in
    let n : ℕ = c.args.n in
    let old : List ℕ = c.args.buf.now in
    let e = c.in_err-at.field-0.0 in
    let h = unplaced ps n (length old) e (sym c.in_err-at.ensures.value) in
    record {
      value = p.1 ∙ ap Err p.2 ∙ sym (read_refused 8 (checked ps) n (length old) e h);
      buffer = sym (held_refused 8 (checked ps) n old e h);
      same = ap checked c.place.ensures.still.same;
      kept = c.place.ensures.still.kept;
    }

pub returns-in_err-verify : goal.returns-in_err-verify
returns-in_err-verify g c =
    let p = err_from_is_err_and c.from_residual-in_err-verify.result c.from_residual-in_err-verify.ensures.1 in
    let ps = g.S.Store.pages c.args.self.now.lower in
    let whole = g.S.Store.laws.whole c.args.self.now.lower in
    let lay : ℕ = g.S.Store.layer in
    let n : ℕ = c.args.n in
    let at : ℕ = c.in_ok-at.at in
    let old : List ℕ = c.args.buf.now in
    let e = c.in_err-verify.field-0.0 in
    let t = placed ps n (length old) at (sym c.in_ok-at.ensures.value) in
    let r = refused_first (verify_answer lay (g.S.Store.pages c.place.new.self.lower) n at) _ e (sym c.verify.ensures.value ∙ c.in_err-verify.was) in
    let told : verify_answer lay ps n (check_page (length ps) n) ≡ Err e =
    sym (ap (verify_answer lay ps n) t.2) ∙ sym (ap (λ w. verify_answer lay w n at) c.place.ensures.still.same) ∙ r in
    record {
      value = p.1 ∙ ap Err p.2 ∙ sym (read_is lay ps n t.1 whole old t.0 ∙ told);
      buffer = sym (buffer_refused lay ps n t.1 whole old t.0 e told);
      same = ap checked (c.verify.ensures.still.same ∙ c.place.ensures.still.same);
      kept = c.verify.ensures.still.kept ∙ c.place.ensures.still.kept;
    }

pub returns : goal.returns
returns g c =
    let ps = g.S.Store.pages c.args.self.now.lower in
    let whole = g.S.Store.laws.whole c.args.self.now.lower in
    let lay : ℕ = g.S.Store.layer in
    let n : ℕ = c.args.n in
    let at : ℕ = c.in_ok-at.at in
    let old : List ℕ = c.args.buf.now in
    let t = placed ps n (length old) at (sym c.in_ok-at.ensures.value) in
    let r = granted_first (verify_answer lay (g.S.Store.pages c.place.new.self.lower) n at) _ _ (sym c.verify.ensures.value ∙ c.in_ok-verify.was) in
    let told : verify_answer lay ps n (check_page (length ps) n) ≡ Ok tt =
    sym (ap (verify_answer lay ps n) t.2) ∙ sym (ap (λ w. verify_answer lay w n at) c.place.ensures.still.same) ∙ r.0 in
    record {
      value = sym (read_is lay ps n t.1 whole old t.0 ∙ told);
      buffer =
          c.copy_from_slice.ensures.after
          ∙ r.1
          ∙ ap (λ w. read_buffer w n blank) c.place.ensures.still.same
          ∙ sym (buffer_granted lay ps n t.1 whole old t.0 tt told);
      same = ap checked (c.verify.ensures.still.same ∙ c.place.ensures.still.same);
      kept = c.verify.ensures.still.kept ∙ c.place.ensures.still.kept;
    }
