-- What a reading gives: a value, or the first fault of what was read.
use Rattle.std.specs.Prelude.{ℕ, Bool, true, false, List, if◌then◌else◌, Option, Some, None, Result, Ok, Err}
use Rattle.hall_policy.specs.Text.{is_kind}

-- the next reading goes on with what this one gave, and a fault ends both
infixl 10 ◌>>=◌
abbrev pub ◌>>=◌ : {A B F : Type 0} → Result A F → (A → Result B F) → Result B F
(Ok x) >>= f = f x
(Err e) >>= f = Err e

-- the value, or the fault where there is none
abbrev pub or_fault : {A F : Type 0} → F → Option A → Result A F
or_fault fault None = Err fault
or_fault fault (Some x) = Ok x

-- nothing, or the fault where the test fails
abbrev pub unless : {F : Type 0} → F → Bool → Result (Unit {0}) F
unless fault true = Ok tt
unless fault false = Err fault

-- the text where it is of the kind, else the fault
abbrev pub of_kind : {F : Type 0} → F → ℕ → ℕ → (ℕ → Bool) → List ℕ → Result (List ℕ) F
of_kind fault least most allows text = if is_kind least most allows text then Ok text else Err fault
