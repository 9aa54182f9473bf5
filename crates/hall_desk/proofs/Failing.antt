-- Why calls that make a plan failed, from why one of them did.
use Rattle.std.proofs.Common.{◌⊎◌, ◌≤◌, inl, inr}
use Rattle.hall_store.specs.Store.{CanFailIn, Content}
use Rattle.hall_store.proofs.Knowing.{fails_after}
use Rattle.hall_desk.specs.Sane.{Sane}
use Rattle.hall_desk.specs.Plans.{PlanCanFail}

-- a call that only reads failed, or met a world that isn't sane
pub plan_cause : (old new : Content) → CanFailIn old new ⊎ (new.honest → new.serves × ¬ (Sane new.world))
    → PlanCanFail old new
plan_cause old new (inl (inl more)) = inl more
plan_cause old new (inl (inr can)) = inr (record { why = inl can })
plan_cause old new (inr insane) = inr (record { why = inr insane })

-- what failed in a later call failed in both
pub later_cause : {P : Type 0} (old mid new : Content) → old.faults ≤ mid.faults → CanFailIn mid new ⊎ P
    → CanFailIn old new ⊎ P
later_cause old mid new on (inl can) = inl (fails_after old mid new on can)
later_cause old mid new on (inr other) = inr other
