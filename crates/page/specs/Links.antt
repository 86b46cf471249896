-- Long pointers: 64 × page + cell. Assumes nothing.
use Rattle.std.specs.Prelude.{ℕ, ◌/◌, ◌%◌, Bool, cond, ◌&&◌, ◌||◌, Some, None, Ok, Err, Option, Result, ◌==◌, nat_le, nat_lt}
use Rattle.fault.specs.declared.kinds.Cause.{Cause}
use Rattle.fault.specs.declared.kinds.Cause.TheVariants.{BadLink}
use Rattle.page.specs.declared.link.Position.{Position}

abbrev pub position : ℕ → ℕ → Position
position n k = record { page = n; cell = k }

-- what a long pointer names
abbrev pub pointed : ℕ → Position
pointed x = position (x / 64) (x % 64)

-- x names a cell 1 to 63 of a page 1 to p
abbrev pub is_long_pointer : ℕ → ℕ → Bool
is_long_pointer p x = nat_lt 0 (x / 64) && (nat_le (x / 64) p && nat_lt 0 (x % 64))

-- x is absent or a long pointer
abbrev pub is_link : ℕ → ℕ → Bool
is_link p x = x == 0 || is_long_pointer p x

-- what the link x names
abbrev pub named : ℕ → Option Position
named x = cond (x == 0) None (Some (pointed x))

-- and refused if it is no link
abbrev pub link_of : ℕ → ℕ → Result (Option Position) Cause
link_of p x = cond (is_link p x) (Ok (named x)) (Err BadLink)
