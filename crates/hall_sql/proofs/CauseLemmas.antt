-- How a call that reads fails as what it called did.
use Rattle.std.proofs.Common.{◌≡◌, Option, Some, None, Result, IfErr, IfNone, ok_or, refl, sym, ◌∙◌}
use Rattle.hall_store.specs.declared.fault.StoreFault.{StoreFault}
use Rattle.hall_store.specs.declared.fault.StoreFault.TheVariants.{Failed}

-- where nothing was found, a call fails as what it called did
pub fails_on : {R : Type 0} (found : Option R) (result : Result R StoreFault) (P Why : Type 0)
    → result ≡ ok_or found Failed
    → IfNone found P → (P → Why) → IfErr result (λ e. e ≡ Failed → Why)
fails_on None result P Why is none why = rw is (λ failed. why none)
fails_on (Some x) result P Why is none why = rw is tt

-- what is no record reads as none
pub none_of : {X : Type 0} (found : Option X) → ((x : X) → ¬ (found ≡ Some x)) → found ≡ None
none_of None other = refl
none_of (Some x) other = absurd (other x refl)

-- a part that reads as none reads as nothing
pub none_is : {X : Type 0} (found : Option X) (x : X) → found ≡ None → ¬ (found ≡ Some x)
none_is found x none some = let no : None ≡ Some x = sym none ∙ some in cc

-- what is none is told to be so
pub none_told : {X : Type 0} (found told : Option X) → found ≡ told → IfNone found (told ≡ None)
none_told None told is = sym is
none_told (Some x) told is = tt
