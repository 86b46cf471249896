use Rattle.std.proofs.Common.{◌≡◌, ℕ, false, List, length, Ok, Err, sym, ap, ◌∙◌, rules}
use Rattle.std.proofs.lemmas.Result.{err_from_is_err_and}
use Rattle.store.specs.Pages.{paged}
use Rattle.store.specs.Rules.{start_answer}
use Rattle.store.proofs.Cuts.{open_frozen}
use Rattle.store.proofs.Steps.{start_granted, write_refused, write_closed, kept_refused, kept_closed}
use Rattle.store.proofs.frozen.FrozenStore.write.Goals as goal

pub returns-in_err-start_of : goal.returns-in_err-start_of
returns-in_err-start_of c =
    let p = err_from_is_err_and c.from_residual.result c.from_residual.ensures.1 in
    let n : ℕ = c.args.n in
    let bs : List ℕ = c.args.self.now.bytes.now in
    let ys : List ℕ = c.args.buf.now in
    let e = c.in_err-start_of.field-0.0 in
    let v = c.in_err-start_of.ensures.value false in
    let h : start_answer 6 (paged false bs) n (length ys) ≡ Err e = cc in
    record {
      value = p.1 ∙ ap Err p.2 ∙ sym (write_refused 6 (paged false bs) n (length ys) e h);
      after = sym (kept_refused 6 (paged false bs) n ys e h);
      kept = search rules;
    }

pub returns : goal.returns
returns c =
    let n : ℕ = c.args.n in
    let bs : List ℕ = c.args.self.now.bytes.now in
    let ys : List ℕ = c.args.buf.now in
    let v = c.in_ok-start_of.ensures.value false in
    let h : start_answer 6 (paged false bs) n (length ys) ≡ Ok c.in_ok-start_of.field-0 = cc in
    let g = start_granted 6 (paged false bs) n (length ys) c.in_ok-start_of.field-0 h in
    let w = write_closed 6 (paged false bs) n (length ys) g.0 g.1 (open_frozen bs n) in
    record { value = search rules; after = sym (kept_closed (paged false bs) n ys (open_frozen bs n)); kept = search rules }
