-- What the hall promises to entrants who protest and to referees, over whole lives of it.
use Rattle.std.specs.Prelude.{◌≡◌, ◌≢◌, ◌⊎◌, ℕ, List, Option, Some, None, IsTrue}
use Rattle.hall_policy.specs.World.{World, place_of, protest_of}
use Rattle.hall_policy.specs.Rules.{IsInvolved}
use Rattle.hall_policy.specs.declared.record.Person.{Person}
use Rattle.hall_policy.specs.declared.record.ProtestRow.{ProtestRow}
use Rattle.hall_policy.specs.declared.record.Ruling.{Ruling}
use Rattle.hall_policy.specs.declared.request.Action.{Action}
use Rattle.hall_policy.specs.declared.request.Action.TheVariants.{Protest, RuleProtest}
use Rattle.hall_policy.specs.declared.request.Request.{Request}
use Rattle.hall_store.specs.Caller.{caller_of}
use Rattle.hall_desk.specs.Promises.{IsSameProtest, IsRulerDenied, IsRulingRetryAnswered}
use Rattle.hall_desk.specs.Step.{Step}
use Rattle.hall_desk.specs.History.{Event, History}
use Rattle.hall_desk.specs.declared.reply.Reply.{Reply}
use Rattle.hall_desk.specs.declared.reply.Reply.TheVariants as reply

-- the same number and the same text come again
abbrev pub IsAgain : ℕ → List ℕ → ℕ → List ℕ → Type 0
IsAgain number text again_number again_text = (number ≡ again_number) × (text ≡ again_text)

-- the reply to the request of an accepted protest when it comes again, or comes with another number or text: no
-- service; the denial of rule 4, only for another number, which the round doesn't have; the denial of the token's rule,
-- only for another number or text, where the round has the number; the first reply, only for the same number and text
abbrev pub IsProtestRetryOf : World → List ℕ → List ℕ → ℕ → List ℕ → ℕ → List ℕ → Reply → Type 0
IsProtestRetryOf world id token number text again_number again_text given =
    (given ≡ reply.Unavailable)
    ⊎ (((given ≡ reply.Denied 4) × (number ≢ again_number) × (place_of world id again_number ≡ None))
    ⊎ (((given ≡ reply.Denied 6) × ¬ (IsAgain number text again_number again_text)
    × (place_of world id again_number ≢ None))
    ⊎ ((given ≡ reply.Protest token) × IsAgain number text again_number again_text)))

-- an accepted protest stays accepted: whatever happens between, it stands with its number and text, and at whatever
-- moment its token comes again, the world stays, and the retry is answered as one
abbrev pub AcceptedProtestsStay : Type 0
AcceptedProtestsStay =
    (world kept later : World) (t : ℕ) (key : Option (List ℕ)) (id token : List ℕ) (number : ℕ) (text : List ℕ)
    (events : List Event) →
    Step world t (record { key = key; action = Protest id token number text }) (reply.Protest token) kept →
    History kept events later →
    ((person : Person) × (row : ProtestRow) × (caller_of world key ≡ Some person)
    × (protest_of later person.name id token ≡ Some row) × IsSameProtest row number text)
    × ((u again_number : ℕ) (again_text : List ℕ) (given : Reply) (new : World) →
    Step later u (record { key = key; action = Protest id token again_number again_text }) given new →
    (new ≡ later) × IsProtestRetryOf later id token number text again_number again_text given)

-- an accepted protest's retry has its answer in every later world: the first reply for the same number and text, the
-- denial of rule 4 for a number that the round doesn't have, the denial of the token's rule for another number or text
-- where the round has the number, with the world as it is
abbrev pub ProtestRetriesAreAnswered : Type 0
ProtestRetriesAreAnswered =
    (world kept later : World) (t u : ℕ) (key : Option (List ℕ)) (id token : List ℕ)
    (number : ℕ) (text : List ℕ) (again_number : ℕ) (again_text : List ℕ)
    (events : List Event) →
    Step world t (record { key = key; action = Protest id token number text }) (reply.Protest token) kept →
    History kept events later →
    let again : Request = record { key = key; action = Protest id token again_number again_text } in
    (IsAgain number text again_number again_text → Step later u again (reply.Protest token) later)
    × (place_of later id again_number ≡ None → Step later u again (reply.Denied 4) later)
    × (¬ (IsAgain number text again_number again_text) → place_of later id again_number ≢ None →
    Step later u again (reply.Denied 6) later)

-- a ruling stays: whatever happens between, its protest has the ruling that was asked for and told, and a further
-- ruling, by whatever key and at whatever moment, changes nothing, and is denied for who makes it, or answered as one
-- of a ruled protest
abbrev pub RulingsStay : Type 0
RulingsStay =
    (world kept later : World) (t : ℕ) (key : Option (List ℕ)) (id entrant token : List ℕ) (ruling told : Ruling)
    (events : List Event) →
    Step world t (record { key = key; action = RuleProtest id entrant token ruling }) (reply.RuleProtest told) kept →
    History kept events later →
    (told ≡ ruling)
    × ((row : ProtestRow) × (protest_of later entrant id token ≡ Some row) × (row.ruling ≡ Some ruling))
    × ((u : ℕ) (by : Option (List ℕ)) (again : Ruling) (given : Reply) (new : World) →
    let action : Action = RuleProtest id entrant token again in
    Step later u (record { key = by; action = action }) given new →
    (new ≡ later)
    × (IsRulerDenied later (caller_of later by) action u given ⊎ IsRulingRetryAnswered ruling again given))

-- a told ruling has its answer in every later world, for the key of every referee who is not involved there: the same
-- ruling is told again, another one is denied by the rule on rulings, with the world as it is
abbrev pub RulingRetriesAreAnswered : Type 0
RulingRetriesAreAnswered =
    (world kept later : World) (t u : ℕ) (key by : Option (List ℕ)) (id entrant token : List ℕ)
    (ruling told again : Ruling) (referee : Person) (events : List Event) →
    let action : Action = RuleProtest id entrant token again in
    Step world t (record { key = key; action = RuleProtest id entrant token ruling }) (reply.RuleProtest told) kept →
    History kept events later →
    caller_of later by ≡ Some referee → IsTrue referee.roles.referee → ¬ (IsInvolved later (Some referee) action) →
    (again ≡ ruling → Step later u (record { key = by; action = action }) (reply.RuleProtest ruling) later)
    × (again ≢ ruling → Step later u (record { key = by; action = action }) (reply.Denied 18) later)
