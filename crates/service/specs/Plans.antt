-- Plans. Assumes nothing.
use Rattle.std.specs.Prelude.{ℕ, Bool, ◌&&◌, Ok, Err, nat_le}
use Rattle.fault.specs.declared.kinds.Cause.TheVariants.{BadPlan}
use Rattle.fault.specs.Faults.{nowhere, fault}
use Rattle.fault.specs.Refusals.{Checked, ◌>>◌, ◌else◌}
use Rattle.service.specs.declared.plan.Plan.{Plan}

-- 1 to 256 addresses and 1 to 16 frames
abbrev pub allowed : ℕ → ℕ → Bool
allowed a f = (nat_le 1 a && nat_le a 256) && (nat_le 1 f && nat_le f 16)

-- the addresses and frames of a plan
abbrev pub plan_answer : ℕ → ℕ → Checked (ℕ × ℕ)
plan_answer a f = do
  allowed a f else fault BadPlan 1 nowhere
  Ok (a, f)

abbrev pub planned : Checked Plan → Checked (ℕ × ℕ)
planned (Ok p) = Ok (p.addresses, p.frames)
planned (Err e) = Err e
