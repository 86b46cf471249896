use Rattle.std.proofs.Common.{◌≡◌, ℕ, ◌-◌, ◌*◌, true, List, length, Ok, Err, sym, ap, ◌∙◌, arith, length-drop, length-take, rules}
use Rattle.std.proofs.lemmas.Result.{err_from_is_err_and}
use Rattle.store.specs.Pages.{paged, past, loan}
use Rattle.store.specs.Rules.{start_answer}
use Rattle.store.proofs.Cuts.{open_paged, written_paged, past_kept, put_at_lem}
use Rattle.store.proofs.Steps.{start_granted, write_refused, write_open, kept_refused, kept_open}
use Rattle.store.proofs.image.ImageStore.write.Goals as goal

pub returns-in_err-start : goal.returns-in_err-start
returns-in_err-start c =
    let p = err_from_is_err_and c.from_residual.result c.from_residual.ensures.1 in
    let n : ℕ = c.args.n in
    let bs : List ℕ = c.args.self.now.bytes.now in
    let ys : List ℕ = c.args.buf.now in
    let e = c.in_err-start.field-0.0 in
    let v = c.in_err-start.ensures.value true in
    let h : start_answer 5 (paged true bs) n (length ys) ≡ Err e = cc in
    record {
      value = p.1 ∙ ap Err p.2 ∙ sym (write_refused 5 (paged true bs) n (length ys) e h);
      after = sym (kept_refused 5 (paged true bs) n ys e h);
      kept = search rules;
    }

pub copy_from_slice-requires : goal.copy_from_slice-requires
copy_from_slice-requires c =
    let g = start_granted c.row.result.layer (paged true c.row.result.bytes.now) c.args.n (length c.args.buf.now) _ (sym (c.in_ok-start.ensures.value true)) in
    simp (length-take, length-drop) (omega (arith, c.in_ok-start.ensures.inside, ap length c.row.ensures.bytes))

pub returns : goal.returns
returns c =
    let n : ℕ = c.args.n in
    let bs : List ℕ = c.args.self.now.bytes.now in
    let ys : List ℕ = c.args.buf.now in
    let start : ℕ = c.in_ok-start.start in
    let v = c.in_ok-start.ensures.value true in
    let h : start_answer 5 (paged true bs) n (length ys) ≡ Ok start = cc in
    let g = start_granted 5 (paged true bs) n (length ys) start h in
    let o = open_paged true bs n g.1 in
    let put = put_at_lem bs start ((n - 1) * 512) g.2 c.copy_from_slice.new.self ys c.copy_from_slice.ensures.after in
    let pages = ap (paged true) put ∙ written_paged true bs n ys g.1 g.0 ∙ sym (kept_open (paged true bs) n ys g.0 o) in
    let rest = ap (λ b. loan c.args.self.now.bytes.ghost_name (past b)) put ∙ ap (loan c.args.self.now.bytes.ghost_name) (past_kept true bs n ys g.1 g.0) in
    record {
      value = sym (write_open 5 (paged true bs) n (length ys) g.0 o);
      after = search rules;
      kept = search rules;
    }
