-- What holds of what is granted. Assumes nothing.
use Rattle.std.proofs.Common.{◌≡◌, Bool, true, false, Some, None, Ok, Err, Option, refl}
use Rattle.fault.specs.declared.kinds.Fault.{Fault}
use Rattle.fault.specs.declared.kinds.Place.{Place}
use Rattle.fault.specs.Refusals.{Checked, ◌>>=◌, ◌>>◌, ◌else◌, ◌otherwise◌}
use Rattle.graph.specs.Steps.{along}

-- what is granted, if it is, has P
pub data Grants {A : Type 0} (P : A → Type 0) : Checked A → Type 0 where
  given : {x : A} → P x → Grants P (Ok x)
  denied : {e : Fault} → Grants P (Err e)

-- a check that tells nothing
pub after : {A B : Type 0} {P : B → Type 0} {q : Checked B} (r : Checked A) → Grants P q → Grants P (r >> q)
after (Ok x) h = h
after (Err e) h = denied

-- one that grants what is used then
pub with : {A B : Type 0} {P : B → Type 0} {r : Checked A} {f : A → Checked B} (Q : A → Type 0) → Grants Q r → ((x : A) → Q x → Grants P (f x)) → Grants P (r >>= f)
with Q (given q) h = h _ q
with Q denied h = denied

pub any : {A : Type 0} (r : Checked A) → Grants (λ _. Unit {0}) r
any (Ok x) = given tt
any (Err e) = denied

pub bound : {A B : Type 0} {P : B → Type 0} {f : A → Checked B} (r : Checked A) → ((x : A) → Grants P (f x)) → Grants P (r >>= f)
bound r h = with (λ _. Unit {0}) (any r) (λ x _. h x)

pub came : {A : Type 0} {P : A → Type 0} {r : Checked A} (l : Place) → Grants P r → Grants P (along l r)
came l (given h) = given h
came l denied = denied

pub some : {A : Type 0} (o : Option A) (e : Fault) → Grants (λ x. o ≡ Some x) (o otherwise e)
some None e = denied
some (Some x) e = given refl

-- a check that tells that it passed
pub so : {B : Type 0} {P : B → Type 0} {q : Checked B} (r : Checked (Unit {0})) → (r ≡ Ok tt → Grants P q) → Grants P (r >> q)
so (Ok x) h = h refl
so (Err e) h = denied

-- a test that tells that it holds
pub holds : {B : Type 0} {P : B → Type 0} {q : Checked B} (b : Bool) (e : Fault) → (b ≡ true → Grants P q) → Grants P ((b else e) >> q)
holds true e h = h refl
holds false e h = denied
