use Rattle.std.proofs.Common.{◌≡◌, ℕ, ◌-◌, ◌*◌, Bool, true, List, length, Err, sym, ap, ◌∙◌, arith, length-drop, length-take, rules}
use Rattle.std.proofs.lemmas.Result.{err_from_is_err_and}
use Rattle.store.specs.Pages.{Page, is_page, paged}
use Rattle.store.specs.Rules.{readable, held_by, start_answer}
use Rattle.store.proofs.Cuts.{page_paged, part_at}
use Rattle.store.proofs.Steps.{start_granted, read_refused, read_inside, held_refused, held_inside}
use Rattle.store.proofs.row.Row.read.Goals as goal

pub returns-in_err-start : goal.returns-in_err-start
returns-in_err-start c =
    let p = err_from_is_err_and c.from_residual.result c.from_residual.ensures.1 in
    let n : ℕ = c.args.n in
    let bs : List ℕ = c.args.self.now.bytes.now in
    let old : List ℕ = c.args.buf.now in
    let e = c.in_err-start.field-0.0 in
    let h : (w : Bool) → start_answer c.args.self.now.layer (paged w bs) n (length old) ≡ Err e = λ w. sym (c.in_err-start.ensures.value w) in
    record {
      value = λ w. p.1 ∙ ap Err p.2 ∙ sym (read_refused c.args.self.now.layer (paged w bs) n (length old) e (h w));
      buffer = λ w. sym (held_refused c.args.self.now.layer (paged w bs) n old e (h w));
    }

pub copy_from_slice-requires : goal.copy_from_slice-requires
copy_from_slice-requires c =
    let g = start_granted c.args.self.now.layer (paged true c.args.self.now.bytes.now) c.args.n (length c.args.buf.now) _ (sym (c.in_ok-start.ensures.value true)) in
    simp (length-take, length-drop) (omega (arith, c.in_ok-start.ensures.inside))

pub returns : goal.returns
returns c =
    let n : ℕ = c.args.n in
    let bs : List ℕ = c.args.self.now.bytes.now in
    let old : List ℕ = c.args.buf.now in
    let start : ℕ = c.in_ok-start.start in
    let g : (w : Bool) → (length old ≡ 512) × (is_page (paged w bs) n ≡ true) × (start ≡ (n - 1) * 512) =
    λ w. start_granted c.args.self.now.layer (paged w bs) n (length old) start (sym (c.in_ok-start.ensures.value w)) in
    record {
      value = λ w. sym (read_inside c.args.self.now.layer (paged w bs) n (length old) (g w).0 (g w).1 ∙ ap (λ (p : Page). readable p.content n) (page_paged w bs n (g w).1));
      buffer = λ w.
          let read = ap (λ (p : Page). held_by p.content old) (page_paged w bs n (g w).1) in
          let e = part_at bs start ((n - 1) * 512) (g w).2 ∙ sym (held_inside (paged w bs) n old (g w).0 ∙ read) in
          search rules;
    }
