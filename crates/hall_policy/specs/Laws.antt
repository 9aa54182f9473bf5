-- Laws of decisions.
use Rattle.std.specs.Prelude.{◌≡◌, ℕ, Option, Some, IsTrue}
use Rattle.hall_policy.specs.World.{World}
use Rattle.hall_policy.specs.Ranges.{IsWorld}
use Rattle.hall_policy.specs.First.{First}
use Rattle.hall_policy.specs.OwnAlike.{is_entrant_alone, OwnRowsAgree}
use Rattle.hall_policy.specs.declared.record.Person.{Person}
use Rattle.hall_policy.specs.declared.request.Action.{Action}
use Rattle.hall_policy.specs.declared.rule.Decision.{Decision}

-- two decisions of one request in one world are one
abbrev pub DecisionsAgree : Type 0
DecisionsAgree =
    (world : World) (caller : Option Person) (a : Action) (t : ℕ) (d f : Decision) →
    First world caller a t d → First world caller a t f → d ≡ f

-- what decides a request of a caller who holds the role entrant alone: the people, the rounds, their lists and testers,
-- and the caller's own answers and protests; the puzzles, with their texts and states, and what others handed in may
-- differ
abbrev pub EntrantsDecidedAlike : Type 0
EntrantsDecidedAlike =
    (world other : World) (person : Person) (t : ℕ) (a : Action) (d f : Decision) → IsWorld world → IsWorld other →
    world.people ≡ other.people → world.rounds ≡ other.rounds → world.places ≡ other.places →
    world.testers ≡ other.testers →
    IsTrue (is_entrant_alone person) → OwnRowsAgree person world other →
    First world (Some person) a t d → First other (Some person) a t f → d ≡ f
