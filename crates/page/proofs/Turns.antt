-- One step of a reader. Assumes nothing.
use Rattle.std.proofs.Common.{◌≡◌, ℕ, zero, suc, ◌+◌, ◌-◌, ◌*◌, ◌≤◌, List, take, drop, Ok, Err, sym, ap, ◌∙◌, arith}
use Rattle.std.proofs.lemmas.Bool.{le-leb}
use Rattle.fault.specs.declared.kinds.Fault.{Fault}
use Rattle.page.specs.Form.{object_at}
use Rattle.page.specs.Parts.{Remaining, object, before, only, cell_bytes, object_part, head_part, parts_from}
use Rattle.page.specs.Types.{by_stage}
use Rattle.page.specs.declared.descriptor.Descriptor.{Descriptor}
use Rattle.page.specs.declared.reader.Stage.{Stage}
use Rattle.page.specs.declared.reader.Stage.TheVariants.{Reading}

-- `&bytes[8 * k..8 * next]`
pub bytes_of : (bs : List ℕ) (k s : ℕ) → take (8 * (k + 1 + s) - 8 * k) (drop (8 * k) bs) ≡ cell_bytes bs k (1 + s)
bytes_of bs k s =
    let e : 8 * (k + 1 + s) - 8 * k ≡ 8 * (1 + s) = omega arith in
    ap (λ n. take n (drop (8 * k) bs)) e

module _ (ts : List Descriptor) (p n : ℕ) (bs : List ℕ) (u : ℕ) where
  parts_skip : (k m s t : ℕ) → t ≡ s + m → parts_from ts p n bs u k t s ≡ parts_from ts p n bs u (k + s) m 0
  parts_skip k m zero t e =
      let e₁ : t ≡ m = omega arith in
      let e₂ : k + 0 ≡ k = omega arith in
      rw (e₁, e₂)
  parts_skip k m (suc s) zero e = absurd (omega arith)
  parts_skip k m (suc s) (suc t) e =
      let e₁ : k + 1 + s ≡ k + suc s = omega arith in
      parts_skip (k + 1) m s t (omega arith) ∙ ap (λ i. parts_from ts p n bs u i m 0) e₁

  -- what is left at cell k
  abbrev pub at : Stage → ℕ → Remaining
  at st k = by_stage st (head_part n u (parts_from ts p n bs u k (u + 1 - k) 0))

  module _ (st : Stage) (reading : st ≡ Reading) (low : u ≤ 63) (k : ℕ) where
    low_head : (l : Remaining) → head_part n u l ≡ l
    low_head l = simp (le-leb u 63 low)

    left : at st k ≡ parts_from ts p n bs u k (u + 1 - k) 0
    left = ap (λ s. at s k) reading ∙ low_head (parts_from ts p n bs u k (u + 1 - k) 0)

    opened : k ≤ u → at st k ≡ object_part bs k (object_at p n bs ts k) (λ s. parts_from ts p n bs u (k + 1) (u - k) s)
    opened h =
        let e : u + 1 - k ≡ suc (u - k) = omega arith in
        left ∙ ap (λ m. parts_from ts p n bs u k m 0) e

    pub read_object : (s : ℕ) → k ≤ u → k + s ≤ u → Ok s ≡ object_at p n bs ts k → at st k ≡ before (object k (cell_bytes bs k (1 + s))) (at st (k + 1 + s))
    read_object s h l e =
        opened h ∙ ap (λ r. object_part bs k r (λ s. parts_from ts p n bs u (k + 1) (u - k) s)) (sym e)
        ∙ ap (before (object k (cell_bytes bs k (1 + s)))) (parts_skip (k + 1) (u + 1 - (k + 1 + s)) s (u - k) (omega arith) ∙ sym (ap (λ t. at t (k + 1 + s)) reading ∙ low_head _))

    pub read_fault : (e : Fault) → k ≤ u → Err e ≡ object_at p n bs ts k → at st k ≡ only e
    read_fault x h e = opened h ∙ ap (λ r. object_part bs k r (λ s. parts_from ts p n bs u (k + 1) (u - k) s)) (sym e)
