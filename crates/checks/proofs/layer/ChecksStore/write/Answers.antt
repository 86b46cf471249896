use Rattle.std.proofs.Common.{◌≡◌, ℕ, true, false, List, length, Err, Option, sym, ap, ◌∙◌}
use Rattle.std.proofs.lemmas.Result.{err_from_is_err_and}
use Rattle.std.specs.Option.{ok_or}
use Rattle.fault.specs.declared.kinds.Cause.TheVariants.{PageClosed}
use Rattle.fault.specs.Faults.{fault}
use Rattle.store.specs.Rules.{open_at, read_buffer}
use Rattle.store.proofs.Steps.{write_refused, kept_refused, write_closed, kept_closed}
use Rattle.checks.specs.Layer.{checked}
use Rattle.checks.specs.Calls.{blank, ready_answer, put_answer, put_pages}
use Rattle.checks.proofs.Parts.{refused_if, granted_if, unplaced, placed, in_checked, ready_is, put_granted, put_pages_lem}
use Rattle.checks.proofs.layer.ChecksStore.write.Goals as goal

pub returns-in_err-at : goal.returns-in_err-at
returns-in_err-at g c =
    let p = err_from_is_err_and c.from_residual.result c.from_residual.ensures.1 in
    let ps = g.S.Store.pages c.args.self.now.lower in
    let n : ℕ = c.args.n in
    let bs : List ℕ = c.args.buf.now in
    let e = c.in_err-at.field-0.0 in
    let h = unplaced ps n (length bs) e (sym c.in_err-at.ensures.value) in
    record {
      value = p.1 ∙ ap Err p.2 ∙ sym (write_refused 8 (checked ps) n (length bs) e h);
      after = ap checked c.place.ensures.still.same ∙ sym (kept_refused 8 (checked ps) n bs e h);
      kept = c.place.ensures.still.kept;
    }

pub returns-in_err-sums : goal.returns-in_err-sums
returns-in_err-sums g c =
    let p = err_from_is_err_and c.from_residual-in_err-sums.result c.from_residual-in_err-sums.ensures.1 in
    let ps = g.S.Store.pages c.args.self.now.lower in
    let lay : ℕ = g.S.Store.layer in
    let n : ℕ = c.args.n in
    let at : ℕ = c.in_ok-at.at in
    let bs : List ℕ = c.args.buf.now in
    let t = placed ps n (length bs) at (sym c.in_ok-at.ensures.value) in
    let r = refused_if (ready_answer lay (g.S.Store.pages c.place.new.self.lower) n at) _ c.new-closed.result c.in_err-sums.field-0.0
    (sym (c.ok_or.ensures.value ∙ ap (λ (o : Option (List ℕ)). ok_or o c.new-closed.result) c.ready.ensures.value) ∙ c.in_err-sums.was) in
    let shut : open_at (checked ps) n ≡ false =
    sym (ap (λ w. ready_answer lay w n at) c.place.ensures.still.same ∙ ap (ready_answer lay ps n) t.2 ∙ ready_is lay ps n t.1) ∙ r.0 in
    record {
      value = p.1 ∙ ap Err (p.2 ∙ r.1 ∙ c.new-closed.ensures ∙ ap (fault PageClosed 8) c.on_page.ensures) ∙ sym (write_closed 8 (checked ps) n (length bs) t.0 (in_checked lay ps n t.1) shut);
      after = ap checked (c.ready.ensures.still.same ∙ c.place.ensures.still.same) ∙ sym (kept_closed (checked ps) n bs shut);
      kept = c.ready.ensures.still.kept ∙ c.place.ensures.still.kept;
    }

pub returns : goal.returns
returns g c =
    let ps = g.S.Store.pages c.args.self.now.lower in
    let whole = g.S.Store.laws.whole c.args.self.now.lower in
    let lay : ℕ = g.S.Store.layer in
    let n : ℕ = c.args.n in
    let at : ℕ = c.in_ok-at.at in
    let bs : List ℕ = c.args.buf.now in
    let t = placed ps n (length bs) at (sym c.in_ok-at.ensures.value) in
    let r = granted_if (ready_answer lay (g.S.Store.pages c.place.new.self.lower) n at) _ c.in_ok-sums.sums c.new-closed.result
    (sym (c.ok_or.ensures.value ∙ ap (λ (o : Option (List ℕ)). ok_or o c.new-closed.result) c.ready.ensures.value) ∙ c.in_ok-sums.was) in
    let o : open_at (checked ps) n ≡ true =
    sym (ap (λ w. ready_answer lay w n at) c.place.ensures.still.same ∙ ap (ready_answer lay ps n) t.2 ∙ ready_is lay ps n t.1) ∙ r.0 in
    let below = c.ready.ensures.still.same ∙ c.place.ensures.still.same in
    let sums = r.1 ∙ ap (λ w. read_buffer w at blank) c.place.ensures.still.same in
    record {
      value =
          c.put.ensures.value
          ∙ ap (λ w. put_answer lay w n at bs) below
          ∙ ap (λ a. put_answer lay ps n a bs) t.2
          ∙ put_granted lay ps n t.1 o bs t.0;
      after =
          ap checked (c.put.ensures.after ∙ ap (λ w. put_pages lay w n at bs c.in_ok-sums.sums) below ∙ ap (put_pages lay ps n at bs) sums
          ∙ ap (λ a. put_pages lay ps n a bs (read_buffer ps a blank)) t.2)
          ∙ put_pages_lem lay ps n t.1 o bs t.0 whole c.put.ensures.small;
      kept = c.put.ensures.kept ∙ c.ready.ensures.still.kept ∙ c.place.ensures.still.kept;
    }
