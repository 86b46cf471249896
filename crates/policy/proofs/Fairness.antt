-- Round robin comes to every frame that stays occupied. Assumes nothing.
use Rattle.std.proofs.Common.{◌≡◌, ℕ, ◌+◌, ◌-◌, ◌<◌, ◌≤◌, Bool, true, false, cond, leb, List, [], ◌∷◌, length, get_or, sym, ap, ◌∙◌, inl, inr, ⊎_elim, append-nil, arith}
use Rattle.std.proofs.lemmas.Bool.{cases_eq, cases_lt, both_ways}
use Rattle.std.proofs.lemmas.Bool.Decides.{nat_tests}
use Rattle.policy.specs.Turns.{span, around, first_held, round_taken, goes_on}
use Rattle.policy.specs.Runs.{Run, Stays, Among, Fair}
use Rattle.policy.proofs.Walking.{Here, Empty, first_at}
use Rattle.policy.specs.declared.round.RoundRobin.{RoundRobin}

-- how far k is from next, going round
away : ℕ → ℕ → ℕ → ℕ
away f next k = cond (leb next k) (k - next) (k + f - next)

near : (f next k : ℕ) → next ≤ f → k < f → away f next k < f
unfolding away
near f next k w l = grind (arith, nat_tests)

-- an answer at or after next
gain_later : (f next r k : ℕ) → next ≤ r → r < f → k < f → (next ≤ k → k < r → ⊥) → (r ≡ k → ⊥) → away f (goes_on f next r) k < away f next k
unfolding away
gain_later f next r k a b l past other = grind (arith, nat_tests)

-- an answer before next
gain_sooner : (f next r k : ℕ) → next ≤ f → r < next → r < k → k < next → away f (goes_on f next r) k < away f next k
unfolding away
gain_sooner f next r k w a b l = grind (arith, nat_tests)

-- unless it takes k, an answer comes nearer to k
nearer : (occ : List Bool) (f next k r : ℕ) → next ≤ f → k < f → get_or occ k false ≡ true → r ≡ round_taken occ f next → (r ≡ k → ⊥) → away f (goes_on f next r) k < away f next k
unfolding around round_taken
nearer occ f next k r w l held e other =
    ⊎_elim
    (λ (h : Here occ next (f - next) r).
    gain_later f next r k h.above (omega (arith, h.below)) l (λ a b. both_ways (get_or occ k false) (h.before k a b) held) other)
    (λ (h : Empty occ next (f - next) × (r ≡ first_held occ f (span 0 next))).
    let low : k < next = ⊎_elim (λ (m : k < next). m) (λ (m : next ≤ k). absurd (both_ways (get_or occ k false) (h.0 k m (omega arith)) held)) (cases_lt k next) in
    ⊎_elim
    (λ (g : Here occ 0 next r).
    let less : r < k = ⊎_elim (λ (m : r < k). m) (λ (m : k ≤ r). absurd (both_ways (get_or occ k false) (g.before k (omega arith) (omega arith)) held)) (cases_lt r k) in
    gain_sooner f next r k w (omega (arith, g.below)) less low)
    (λ (g : Empty occ 0 next × (r ≡ first_held occ f [])). absurd (both_ways (get_or occ k false) (g.0 k (omega arith) (omega arith)) held))
    (first_at occ f 0 next [] r (h.1 ∙ ap (first_held occ f) (sym (append-nil (span 0 next))))))
    (first_at occ f next (f - next) (span 0 next) r e)

within : (sets : List (List Bool)) (p : RoundRobin) (k : ℕ) (rs : List ℕ) → Run p sets rs → k < p.frames → away p.frames p.next k < length sets → Stays k sets → Among k rs
within [] p k [] run l near held = absurd (omega arith)
within [] p k (r ∷ rs) run l near held = absurd run
within (occ ∷ sets) p k [] run l near held = absurd run
within (occ ∷ sets) p k (r ∷ rs) (q, (step, run)) l near (held, later) =
    ⊎_elim
    (λ (e : r ≡ k). inl e)
    (λ (other : r ≡ k → ⊥).
    let less = nearer occ p.frames p.next k r p.within l held step.taken other in
    let moved : away q.frames q.next k ≡ away p.frames (goes_on p.frames p.next r) k = simp (step.frames, step.next) in
    inr (within sets q k rs run (omega (arith, step.frames)) (omega (arith, moved, less)) later))
    (cases_eq r k)

-- a frame that stays occupied is taken within as many answers as there are frames
pub fair : (p : RoundRobin) → Fair p p.frames
fair p k sets rs run l long held = within sets p k rs run l (omega (arith, near p.frames p.next k p.within l)) held
