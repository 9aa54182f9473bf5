-- What is found for a request, and of which worlds it is true.
use Rattle.std.specs.Prelude.{◌≡◌, ◌≢◌, ℕ, List, Option, Some, IsTrue, IfSome}
use Rattle.std.specs.FinMap.{get}
use Rattle.hall_policy.specs.World.{World}
use Rattle.hall_policy.specs.Rules.{ListsEntry, StandsReleased, IsCertified}
use Rattle.hall_policy.specs.declared.record.Person.{Person}
use Rattle.hall_policy.specs.declared.record.Entry.{Entry}
use Rattle.hall_policy.specs.declared.record.Round.{Round}
use Rattle.hall_desk.specs.declared.release_faults.EntryFault.{EntryFault}
use Rattle.hall_desk.specs.declared.release_faults.EntryFault.TheVariants.{Shared, Uncertified}
use Rattle.hall_store.specs.Caller.{caller_of}

-- the caller, if there is one, is there
abbrev pub IsThere : World → Option Person → Type 0
IsThere world caller = IfSome caller (λ person. get world.people person.name ≡ Some person)

-- the caller found is the person with the key, who is there
pub record IsCaller (world : World) (key : Option (List ℕ)) (person : Option Person) : Type 0 where
  pub found : person ≡ caller_of world key
  pub there : IsThere world person

-- a person of the name with the role author is there
abbrev pub HasAuthor : World → List ℕ → Type 0
HasAuthor world name = (person : Person) × (get world.people name ≡ Some person) × IsTrue person.roles.author

-- the round is there and released
abbrev pub IsReleasedRound : World → List ℕ → Type 0
IsReleasedRound world id = (round : Round) × (get world.rounds id ≡ Some round) × IsTrue round.released

-- what keeps the round of the id from its release at one entry: its puzzle stands in another released round, or isn't
-- in state one
abbrev pub HasFault : EntryFault → World → List ℕ → Entry → Type 0
HasFault Shared world id entry = (other : List ℕ) × (other ≢ id) × StandsReleased world entry.puzzle other
HasFault Uncertified world id entry = ¬ (IsCertified world entry.puzzle)

-- an entry of the round has the fault
abbrev pub HasFaultyEntry : EntryFault → World → List ℕ → Type 0
HasFaultyEntry fault world id = (entry : Entry) × ListsEntry world id entry × HasFault fault world id entry
