-- A list of refusals in their order, written as a `do` block. Assumes nothing.
use Rattle.std.specs.Prelude.{Bool, cond, Some, None, Ok, Err, Option, Result}
use Rattle.fault.specs.declared.kinds.Fault.{Fault}

-- what is granted, or the fault by which it is refused
abbrev pub Checked : Type 0 → Type 0
Checked A = Result A Fault

infixl 6 ◌>>=◌
infixl 6 ◌>>◌
abbrev pub ◌>>=◌ : {A B : Type 0} → Checked A → (A → Checked B) → Checked B
◌>>=◌ (Ok x) f = f x
◌>>=◌ (Err e) f = Err e

abbrev pub ◌>>◌ : {A B : Type 0} → Checked A → Checked B → Checked B
◌>>◌ (Ok x) r = r
◌>>◌ (Err e) r = Err e

-- refused with the fault unless the test holds
infix 5 ◌else◌
abbrev pub ◌else◌ : Bool → Fault → Checked (Unit {0})
◌else◌ b e = cond b (Ok tt) (Err e)

-- refused with the fault where there is none
infix 5 ◌otherwise◌
abbrev pub ◌otherwise◌ : {A : Type 0} → Option A → Fault → Checked A
◌otherwise◌ None e = Err e
◌otherwise◌ (Some x) e = Ok x

-- the first where the call is granted, else the second
abbrev pub if_granted : {A B : Type 0} → Checked A → B → B → B
if_granted (Ok x) yes' no' = yes'
if_granted (Err e) yes' no' = no'
