-- One answer of each policy: the frame, and the policy after; and a touch. Assumes nothing.
use Rattle.std.specs.Prelude.{◌≡◌, ℕ, Bool, List}
use Rattle.policy.specs.Turns.{goes_on, round_taken, chance_taken, chance_left, marked}
use Rattle.policy.specs.declared.round.RoundRobin.{RoundRobin}
use Rattle.policy.specs.declared.chance.SecondChance.{SecondChance}

pub record RoundPicks (p : RoundRobin) (occupied : List Bool) (r : ℕ) (q : RoundRobin) : Type 0 where
  pub taken : r ≡ round_taken occupied p.frames p.next
  pub frames : q.frames ≡ p.frames
  pub next : q.next ≡ goes_on p.frames p.next r

pub record ChancePicks (p : SecondChance) (occupied : List Bool) (r : ℕ) (q : SecondChance) : Type 0 where
  pub taken : r ≡ chance_taken occupied p.touched p.round.frames p.round.next
  pub frames : q.round.frames ≡ p.round.frames
  pub next : q.round.next ≡ goes_on p.round.frames p.round.next r
  pub touched : q.touched ≡ chance_left occupied p.touched p.round.frames p.round.next

pub record ChanceTouches (p : SecondChance) (k : ℕ) (q : SecondChance) : Type 0 where
  pub frames : q.round.frames ≡ p.round.frames
  pub next : q.round.next ≡ p.round.next
  pub touched : q.touched ≡ marked p.touched p.round.frames k
