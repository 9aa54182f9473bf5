-- A decision on facts that are true of a world.
use Rattle.std.specs.Prelude.{ℕ, suc}
use Rattle.hall_policy.specs.World.{World}
use Rattle.hall_policy.specs.First.{First, NoneBelow}
use Rattle.hall_policy.specs.Facts.{TrueUpTo, deciding}
use Rattle.hall_policy.specs.Implies.{Implies}
use Rattle.hall_policy.specs.declared.request.Action.{Action}
use Rattle.hall_policy.specs.declared.rule.Decision.{Decision}
use Rattle.hall_policy.specs.declared.facts.Facts.{Facts}

-- the first rule decides so, the facts that it rests on are true of the world, and imply what the decision does
pub record IsDecided (world : World) (facts : Facts) (action : Action) (t : ℕ) (decision : Decision) : Type 0 where
  pub first : First world facts.caller action t decision
  pub told : TrueUpTo (deciding action decision) facts world action
  pub implied : Implies decision facts action

-- the decision stands in each world of which the facts up to the rule of number n are true
abbrev pub IsDecidedUpTo : ℕ → Facts → Action → ℕ → Decision → Type 0
IsDecidedUpTo n facts action t decision =
    (world : World) → TrueUpTo n facts world action → IsDecided world facts action t decision

-- no rule up to number n forbids or repeats, in each world of which the facts up to there are true
abbrev pub PassesUpTo : ℕ → Facts → Action → ℕ → Type 0
PassesUpTo n facts action t =
    (world : World) → TrueUpTo n facts world action → NoneBelow (suc n) world facts.caller action t
