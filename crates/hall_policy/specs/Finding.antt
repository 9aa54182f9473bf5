-- What the facts say of one rule: it passes, forbids, or repeats what was done before.
use Rattle.std.specs.Prelude.{◌≡◌, ◌⊎◌, ◌↔◌, ℕ, Bool, true, false, IsTrue}
use Rattle.hall_policy.specs.World.{World}
use Rattle.hall_policy.specs.First.{Sentence, SameBefore}
use Rattle.hall_policy.specs.Facts.{Tells}
use Rattle.hall_policy.specs.Implies.{IsSame, PassImplies}
use Rattle.hall_policy.specs.declared.request.Action.{Action}
use Rattle.hall_policy.specs.declared.rule.Rule.{Rule}
use Rattle.hall_policy.specs.declared.rule.Rule.TheVariants.{TokenTaken, RuledOtherwise}
use Rattle.hall_policy.specs.declared.facts.Facts.{Facts}
use Rattle.hall_policy.specs.declared.rule_checks.Finding.{Finding}
use Rattle.hall_policy.specs.declared.rule_checks.Finding.TheVariants.{Passes, Forbids, Repeats}

-- a rule that never repeats
abbrev pub finding_of : Bool → Finding
finding_of true = Forbids
finding_of false = Passes

-- what stands already repeats where it is the same, and else forbids
abbrev pub standing : Bool → Finding
standing true = Repeats
standing false = Forbids

-- the finding says which of the two sentences is true
abbrev pub IsFinding : Finding → Type 0 → Type 0 → Type 0
IsFinding Passes forbids repeats = ¬ forbids × ¬ repeats
IsFinding Forbids forbids repeats = forbids
IsFinding Repeats forbids repeats = repeats

-- what the finding implies of the facts alone
abbrev pub FindingImplies : Finding → Rule → Facts → Action → Type 0
FindingImplies Passes rule facts action = PassImplies rule facts action
FindingImplies Forbids rule facts action = Unit {0}
FindingImplies Repeats rule facts action = ((rule ≡ TokenTaken) ⊎ (rule ≡ RuledOtherwise)) × IsSame facts action

-- the test tells whether the rule forbids, in each world of which the facts that it reads are true
abbrev pub IsTestOf : Rule → Facts → Action → ℕ → Bool → Type 0
IsTestOf rule facts action t test =
    (world : World) → Tells rule facts world action → (IsTrue test ↔ Sentence rule world facts.caller action t)

-- the finding tells what the rule does, in each world of which the facts that it reads are true
abbrev pub IsFindingOf : Rule → Facts → Action → ℕ → Finding → Type 0
IsFindingOf rule facts action t finding =
    (world : World) → Tells rule facts world action →
    IsFinding finding (Sentence rule world facts.caller action t) (SameBefore rule world facts.caller action)
