-- What the desk found for one request, and of which worlds it is true.
use Rattle.std.specs.Prelude.{◌≡◌, ◌↔◌, ◌&&◌, nat_le, ℕ, Bool, true, false, List, Option, Some, None, IsTrue, Contains}
use Rattle.std.specs.FinMap.{get}
use Rattle.std.specs.List.{AllByRecursion}
use Rattle.hall_policy.specs.World.{World, IsRoundAt, entry_at, answer_of, protest_of}
use Rattle.hall_policy.specs.Actions.{number_of, last_rule, rules_asked, round_named, finds_drafts}
use Rattle.hall_policy.specs.Rules.{TheCaller, is_director, SheetLacks, ListsAuthor, ListsTester, ReadsAsTester}
use Rattle.hall_policy.specs.Rules.{HasHandIn, IsInReleasedRound, IsUncertified, HasOpenProtest}
use Rattle.hall_policy.specs.Rules.{IsInvolved, HasConflict, answers_given, protests_made, puzzles_put}
use Rattle.hall_policy.specs.declared.record.Person.{Person}
use Rattle.hall_policy.specs.declared.record.Entry.{Entry}
use Rattle.hall_policy.specs.declared.record.RoundRow.{RoundRow}
use Rattle.hall_policy.specs.declared.request.Action.{Action}
use Rattle.hall_policy.specs.declared.request.Action.TheVariants.{PutPuzzle, ReadPuzzle, Certify, PutRound, ReadRound}
use Rattle.hall_policy.specs.declared.request.Action.TheVariants.{Submit, Protest, RuleProtest}
use Rattle.hall_policy.specs.declared.rule.Rule as rule
use Rattle.hall_policy.specs.declared.rule.Rule.TheVariants.{UnknownKey, NoRole, OtherAuthor, Missing, OwnPuzzle}
use Rattle.hall_policy.specs.declared.rule.Rule.TheVariants.{TokenTaken, NotStarted, Ended, NotEnded, Closed}
use Rattle.hall_policy.specs.declared.rule.Rule.TheVariants.{InReleasedRound, NotCertified, NoDraft, Started}
use Rattle.hall_policy.specs.declared.rule.Rule.TheVariants.{Published, OpenProtest, Involved, RuledOtherwise}
use Rattle.hall_policy.specs.declared.rule.Rule.TheVariants.{LimitReached, ListConflict}
use Rattle.hall_policy.specs.declared.rule.Decision.{Decision}
use Rattle.hall_policy.specs.declared.rule.Decision.TheVariants.{Allow, Repeat, Deny}
use Rattle.hall_policy.specs.declared.facts.Facts.{Facts}

-- the row found for the round that is named, or none
abbrev pub IsRoundFound : World → Option (List ℕ) → Option RoundRow → Type 0
IsRoundFound world None None = Unit {0}
IsRoundFound world None (Some row) = ⊥
IsRoundFound world (Some id) None = get world.rounds id ≡ None
IsRoundFound world (Some id) (Some row) = IsRoundAt world id row

-- the answer found under the caller's token
abbrev pub IsAnswerFound : Facts → World → Action → Type 0
IsAnswerFound facts world (Submit round number token answer) =
    (person : Person) → facts.caller ≡ Some person → facts.answer ≡ answer_of world person.name round number token
IsAnswerFound facts world _ = Unit {0}

-- the protest found under the token of the caller, or of the entrant who is named
abbrev pub IsProtestFound : Facts → World → Action → Type 0
IsProtestFound facts world (Protest round token number text) =
    (person : Person) → facts.caller ≡ Some person → facts.protest ≡ protest_of world person.name round token
IsProtestFound facts world (RuleProtest round entrant token ruling) =
    facts.protest ≡ protest_of world entrant round token
IsProtestFound facts world _ = Unit {0}

-- what is needed to tell whether the object is there
abbrev pub IsObjectFound : Facts → World → Action → Type 0
IsObjectFound facts world (PutPuzzle key puzzle) =
    IsTrue facts.author_is_there
    ↔ ((person : Person) × (get world.people key.author ≡ Some person) × IsTrue person.roles.author)
IsObjectFound facts world (ReadPuzzle key) = facts.puzzle ≡ get world.puzzles key
IsObjectFound facts world (Certify key budget) = facts.puzzle ≡ get world.puzzles key
IsObjectFound facts world (PutRound round sheet) = IsTrue facts.sheet_lacks ↔ SheetLacks world sheet
IsObjectFound facts world (RuleProtest round entrant token ruling) =
    IsRoundFound world (Some round) facts.round × (facts.protest ≡ protest_of world entrant round token)
IsObjectFound facts world action = IsRoundFound world (round_named action) facts.round

-- how much of what is limited there is
abbrev pub IsCountFound : Facts → World → Action → Type 0
IsCountFound facts world (Submit round number token answer) =
    (person : Person) → facts.caller ≡ Some person → facts.count ≡ answers_given world person.name round number
IsCountFound facts world (Protest round token number text) =
    (person : Person) → facts.caller ≡ Some person → facts.count ≡ protests_made world person.name round
IsCountFound facts world (PutPuzzle key puzzle) =
    (facts.puzzle ≡ get world.puzzles key) × (facts.puzzle ≡ None → facts.count ≡ puzzles_put world key.author)
IsCountFound facts world _ = Unit {0}

-- the facts that a rule reads are true of the world
abbrev pub Tells : rule.Rule → Facts → World → Action → Type 0
Tells UnknownKey facts world action = Unit {0}
Tells NoRole facts world action = Unit {0}
Tells OtherAuthor facts world action = Unit {0}
Tells Missing facts world action = IsObjectFound facts world action
Tells OwnPuzzle facts world action = IsRoundFound world (round_named action) facts.round
Tells TokenTaken facts world action = IsAnswerFound facts world action × IsProtestFound facts world action
Tells NotStarted facts world action = IsRoundFound world (round_named action) facts.round
Tells Ended facts world action = IsRoundFound world (round_named action) facts.round
Tells NotEnded facts world action = IsRoundFound world (round_named action) facts.round
Tells Closed facts world action = IsRoundFound world (round_named action) facts.round
Tells InReleasedRound facts world action = IsTrue facts.in_released ↔ IsInReleasedRound world action
Tells NotCertified facts world action = IsTrue facts.uncertified ↔ IsUncertified world action
Tells NoDraft facts world action = IsRoundFound world (round_named action) facts.round
Tells Started facts world action = IsRoundFound world (round_named action) facts.round
Tells Published facts world action = IsRoundFound world (round_named action) facts.round
Tells OpenProtest facts world action = IsTrue facts.open_protest ↔ HasOpenProtest world action
Tells Involved facts world action = IsTrue facts.involved ↔ IsInvolved world facts.caller action
Tells RuledOtherwise facts world action = IsProtestFound facts world action
Tells LimitReached facts world action = IsCountFound facts world action
Tells ListConflict facts world action = IsTrue facts.conflict ↔ HasConflict world action

-- the number of the rule that decides
abbrev pub deciding : Action → Decision → ℕ
deciding action (Deny k) = k
deciding (RuleProtest round entrant token ruling) Repeat = 18
deciding action Repeat = 6
deciding action Allow = last_rule

-- P, where the test passes
abbrev pub Where : Bool → Type 0 → Type 0
Where true P = P
Where false P = Unit {0}

-- the facts that the asked rules read, up to the one of number n, are true of the world
abbrev pub TrueUpTo : ℕ → Facts → World → Action → Type 0
TrueUpTo n facts world action =
    AllByRecursion (λ r. Where (nat_le (number_of r) n) (Tells r facts world action)) (rules_asked action)

-- the facts that the asked rules read are true of the world
abbrev pub AreTrue : Facts → World → Action → Type 0
AreTrue facts world action = TrueUpTo last_rule facts world action

-- no round was found, or a draft that the action doesn't find
abbrev pub HidesRound : Facts → Action → Type 0
HidesRound facts action =
    (row : RoundRow) → facts.round ≡ Some row →
    (row.round.released ≡ false) × ((is_director facts.caller && finds_drafts action) ≡ false)

-- no round was found, or one without a puzzle of this number
abbrev pub LacksNumber : Facts → ℕ → Type 0
LacksNumber facts number = (row : RoundRow) → facts.round ≡ Some row → entry_at row.puzzles number ≡ None

-- one of the puzzles is by the author
abbrev pub HasEntryBy : List Entry → List ℕ → Type 0
HasEntryBy entries author = (entry : Entry) × Contains entries entry × (entry.puzzle.author ≡ author)

-- the test tells whether the round that is named has a puzzle by the author,
-- in each world that has the round as it was found
abbrev pub TellsAuthor : Facts → List ℕ → Bool → Type 0
TellsAuthor facts author test =
    (world : World) (named : Option (List ℕ)) → IsRoundFound world named facts.round →
    (IsTrue test ↔ ListsAuthor world named author)

-- the round that was found has the tester
abbrev pub RoundHasTester : Facts → List ℕ → Type 0
RoundHasTester facts name = (row : RoundRow) × (facts.round ≡ Some row) × Contains row.testers name

-- the test tells whether the round that is named has the tester,
-- in each world that has the round as it was found
abbrev pub TellsTester : Facts → List ℕ → Bool → Type 0
TellsTester facts name test =
    (world : World) (named : Option (List ℕ)) → IsRoundFound world named facts.round →
    (IsTrue test ↔ ListsTester world named name)

-- the caller is a tester of the round that was found, and reads it
abbrev pub ReadsFoundAsTester : Facts → Action → Type 0
ReadsFoundAsTester facts (ReadRound round) = TheCaller facts.caller (λ person. RoundHasTester facts person.name)
ReadsFoundAsTester facts _ = ⊥

-- the test tells whether the caller is a tester of the round that is named, and reads it,
-- in each world that has the round as it was found
abbrev pub TellsReading : Facts → Action → Bool → Type 0
TellsReading facts action test =
    (world : World) → IsRoundFound world (round_named action) facts.round →
    (IsTrue test ↔ ReadsAsTester world facts.caller action)

-- the test tells whether the person has a hand in the round that is named,
-- in each world that has the round as it was found
abbrev pub TellsHand : Facts → List ℕ → Bool → Type 0
TellsHand facts name test =
    (world : World) (named : Option (List ℕ)) → IsRoundFound world named facts.round →
    (IsTrue test ↔ HasHandIn world named name)
