use Rattle.std.proofs.Common.{◌≡◌, ℕ, ◌+◌, ◌*◌, ◌/◌, ◌%◌, ◌^◌, ◌<◌, ◌≤◌, get_or, refl, sym, subst, ⊎_elim, arith}
use lib.Count.{count_trailing_zeros}
use Rattle.std.proofs.lemmas.Bool.{cases_lt}
use Rattle.pageset.specs.Sets.{holds, FirstAfter}
use Rattle.pageset.proofs.Members.{holds_past, first_after, nothing, empty_words, whole}
use Rattle.pageset.proofs.Positions.{none_in, some_in}
use Rattle.pageset.proofs.Digits.{used_true, used_false}
use Rattle.pageset.specs.Sets.{used}
use Rattle.pageset.proofs.PageSet.after.Goals as goal

pub returns-then-page-ge1024 : goal.returns-then-page-ge1024
returns-then-page-ge1024 c m h = holds_past c.args.self.now.words m c.args.self.now.sized (omega arith)

pub returns-then-rest-ne0 : goal.returns-then-rest-ne0
returns-then-rest-ne0 c =
    let t = c.args.self.now in
    let p = c.args.page in
    let i = p / 64 in
    let j = p % 64 in
    let v = get_or t.words i 0 / 2 ^ j in
    let e : 64 * i + j ≡ p = omega arith in
    subst (λ (n : ℕ). FirstAfter (holds t.words) n (n + 1 + count_trailing_zeros 64 v)) e (first_after t.words i j v (t.bits i) refl (omega arith) (omega (arith, c.if-rest-ne0.true)) (omega arith))

pub returns-in_err-i : goal.returns-in_err-i
returns-in_err-i c =
    let t = c.args.self.now in
    let p = c.args.page in
    let i = p / 64 in
    let j = p % 64 in
    let v = get_or t.words i 0 / 2 ^ j in
    rw c.from_residual.ensures (λ n a. ⊎_elim
    (λ (l : 64 * (i + 1) < n). ⊎_elim
    (λ (h : 1024 < n). holds_past t.words n t.sized h)
    (λ (h : n ≤ 1024). empty_words t.words (i + 1) 16 (λ k q r. used_false (get_or t.words k 0) (none_in used t.words (i + 1) 16 (omega arith) (omega arith) (sym c.in_err-i.ensures) k q r)) n l h)
    (cases_lt 1024 n))
    (λ (l : n ≤ 64 * (i + 1)). nothing t.words i j v (t.bits i) refl (omega arith) (omega (arith, c.if-rest-ne0.false)) n (omega arith) (omega arith))
    (cases_lt (64 * (i + 1)) n))

pub returns : goal.returns
returns c =
    let t = c.args.self.now in
    let p = c.args.page in
    let i = p / 64 in
    let j = p % 64 in
    let v = get_or t.words i 0 / 2 ^ j in
    let more = some_in used t.words (i + 1) 16 (omega arith) (omega arith) c.in_ok-i.field-0 (sym c.in_ok-i.ensures) in
    let k = i + 1 + c.in_ok-i.field-0 in
    let w = get_or t.words k 0 in
    let f = first_after t.words k 0 w (t.bits k) (whole w) (omega arith) (used_true w more.1) more.0 in
    record {
      above = omega arith;
      most = omega (arith, f.most);
      between = λ n a b. ⊎_elim
          (λ (l : 64 * (i + 1) < n). ⊎_elim
          (λ (h : 64 * k < n). f.between n (omega arith) (omega arith))
          (λ (h : n ≤ 64 * k). empty_words t.words (i + 1) k (λ m q r. used_false (get_or t.words m 0) (more.2 m q r)) n l h)
          (cases_lt (64 * k) n))
          (λ (l : n ≤ 64 * (i + 1)). nothing t.words i j v (t.bits i) refl (omega arith) (omega (arith, c.if-rest-ne0.false)) n (omega arith) (omega arith))
          (cases_lt (64 * (i + 1)) n);
      hit = let e : 64 * k + 0 + 1 + count_trailing_zeros 64 w ≡ k * 64 + 1 + count_trailing_zeros 64 w = omega arith in rw e at f.hit;
    }
