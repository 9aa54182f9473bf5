-- What is told of bytes that were asked for.
use Rattle.std.proofs.Common.{◌≡◌, ℕ, List, Result, Ok, Err, IfOk, refl}

-- bytes that the call told are given
pub given : {V E : Type 0} (items : V → List ℕ) (Same : Type 0) (Told : Result V E → Type 0) (told : Result V E)
    → Same → Told told → IfOk told (λ bytes. Same × ((read : V) × (items read ≡ items bytes) × Told (Ok read)))
given items Same Told (Ok bytes) same called = (same, (bytes, refl, called))
given items Same Told (Err e) same called = tt
