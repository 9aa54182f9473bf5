-- What who is no director can't learn, in whatever roles: puzzles of others before their round's start, and verdicts in
-- a sealed round before its end.
use Rattle.std.specs.Prelude.{◌≡◌, ◌⊎◌, ◌≤◌, ℕ, false, List, map, All, Option, Some, None, IsTrue}
use Rattle.std.specs.FinMap.{get}
use Rattle.hall_policy.specs.World.{World, IsTesterOf}
use Rattle.hall_policy.specs.Ranges.{IsWorld, IsRequest}
use Rattle.hall_policy.specs.Rules.{is_director, ListsEntry}
use Rattle.hall_policy.specs.declared.record.Entry.{Entry}
use Rattle.hall_policy.specs.declared.record.Person.{Person}
use Rattle.hall_policy.specs.declared.record.PuzzleKey.{PuzzleKey}
use Rattle.hall_policy.specs.declared.record.Round.{Round}
use Rattle.hall_store.specs.Caller.{caller_of}
use Rattle.hall_desk.specs.AnsweredRun.{AnsweredRun, timed, exchanged_asked}
use Rattle.hall_desk.specs.Exchanged.{swapped, exchanged_replies, IsSealedRound}
use Rattle.hall_desk.specs.Run.{IsTimed}
use Rattle.hall_desk.specs.Sane.{Sane}
use Rattle.hall_desk.specs.Secrecy.{HasStarted, DifferInVerdicts}
use Rattle.hall_desk.specs.Step.{Asked, IsAnswered}
use Rattle.hall_desk.specs.Without.{replies_to}
use Rattle.hall_desk.specs.declared.reply.Reply.{Reply}

-- the caller is nobody, or a person of whatever roles but that of a director
abbrev pub IsNoDirector : Option Person → Type 0
IsNoDirector caller = is_director caller ≡ false

-- the person of that name is a tester of a released round that has the puzzle
abbrev pub TestsReleased : World → List ℕ → PuzzleKey → Type 0
TestsReleased world name key =
    (id : List ℕ) × (round : Round) × (entry : Entry) × (get world.rounds id ≡ Some round) × IsTrue round.released
    × IsTesterOf world id name × ListsEntry world id entry × (entry.puzzle ≡ key)

-- the puzzle is the person's own, or the person tests it
abbrev pub Knows : World → Person → PuzzleKey → Type 0
Knows world person key = (key.author ≡ person.name) ⊎ TestsReleased world person.name key

-- no puzzle differs that the caller knows so
abbrev pub KnowsNothingElse : World → World → Option Person → Type 0
KnowsNothingElse world other None = Unit {0}
KnowsNothingElse world other (Some person) =
    (key : PuzzleKey) → Knows world person key → get world.puzzles key ≡ get other.puzzles key

-- two worlds differ only in puzzles, none of which stands in a released round that has started: in their texts, their
-- solutions and their states, and in which are there
pub record DifferInUnstarted (world other : World) (t : ℕ) : Type 0 where
  pub people : world.people ≡ other.people
  pub rounds : world.rounds ≡ other.rounds
  pub places : world.places ≡ other.places
  pub testers : world.testers ≡ other.testers
  pub answers : world.answers ≡ other.answers
  pub protests : world.protests ≡ other.protests
  pub started : (key : PuzzleKey) → HasStarted world t key → get world.puzzles key ≡ get other.puzzles key

-- what two worlds, sane or not, answer to a request of who is no director is the same where they differ only in puzzles
-- that no started round has, that aren't the caller's own, and that stand in no released round of which the caller is a
-- tester; a search, if the request runs one, finds the same in both
abbrev pub PuzzlesHidden : Type 0
PuzzlesHidden =
    (world other new changed : World) (asked : Asked) (given answered : Reply) → IsWorld world → IsWorld other →
    IsRequest asked.request → DifferInUnstarted world other asked.moment →
    IsNoDirector (caller_of world asked.request.key) →
    KnowsNothingElse world other (caller_of world asked.request.key) →
    IsAnswered world asked given new → IsAnswered other asked answered changed → given ≡ answered

-- so it is where they differ only in verdicts that are hidden
abbrev pub VerdictsHidden : Type 0
VerdictsHidden =
    (world other new changed : World) (asked : Asked) (given answered : Reply) → IsWorld world → IsWorld other →
    IsRequest asked.request → DifferInVerdicts world other asked.moment →
    IsNoDirector (caller_of world asked.request.key) →
    IsAnswered world asked given new → IsAnswered other asked answered changed → given ≡ answered

-- ---- over runs

-- the request comes by the moment, of who is no director and knows nothing that differs
pub record IsAskedUnknowing (world other : World) (t : ℕ) (asked : Asked) : Type 0 where
  pub typed : IsTimed (timed asked)
  pub in_time : asked.moment ≤ t
  pub no_director : IsNoDirector (caller_of world asked.request.key)
  pub knows : KnowsNothingElse world other (caller_of world asked.request.key)

-- From two sane worlds that differ only so, each of such requests by the moment is told the same in both. The worlds
-- after them differ only so too, and who knew nothing that differs still knows nothing: so the same holds of the
-- requests after them. Between two such lists others may ask, as directors, as authors of what differs, and as testers
-- of it, as long as the worlds differ only so after them.
abbrev pub PuzzlesHiddenInRuns : Type 0
PuzzlesHiddenInRuns =
    (world other last end : World) (t : ℕ) (list : List Asked) (replies others : List Reply) → Sane world →
    Sane other → DifferInUnstarted world other t → All (IsAskedUnknowing world other t) list →
    AnsweredRun world list replies last → AnsweredRun other list others end →
    (replies ≡ others) × DifferInUnstarted last end t
    × ((caller : Option Person) → KnowsNothingElse world other caller → KnowsNothingElse last end caller)

-- From the world, until a sealed round's end, which of two texts is the answer is hidden from whoever is no director:
-- for a sealed round r that is released and has no answer, a list of requests whose moments all lie before r's end, two
-- texts a and b, and a person e of the world at the list's end who is no director, the replies to e to the list in
-- which a and b are exchanged are exactly those to the list, with a and b exchanged where answers to r are listed. Both
-- lists are of requests of their types, and each search finds the same in both.
abbrev pub VerdictsHiddenInRuns : Type 0
VerdictsHiddenInRuns =
    (world last end : World) (r a b : List ℕ) (round : Round) (e : Person) (list : List Asked)
    (replies others : List Reply) →
    let turned : List Asked = map (exchanged_asked (swapped r a b)) list in
    Sane world → All IsTimed (map timed list) → All IsTimed (map timed turned) →
    IsSealedRound world r round (map timed list) → get last.people e.name ≡ Some e → IsNoDirector (Some e) →
    AnsweredRun world list replies last → AnsweredRun world turned others end →
    replies_to e.key (map timed turned) others
    ≡ replies_to e.key (map timed list) (exchanged_replies r a b (map timed list) replies)
