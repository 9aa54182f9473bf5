-- What an entrant can't learn: what others do, puzzles before a round's start, verdicts in a sealed round.
use Rattle.std.specs.Prelude.{◌≡◌, ◌≢◌, ◌≤◌, ◌&&◌, not, ℕ, Bool, false, List, All, Option, Some, None, IsTrue, nat_lt}
use Rattle.std.specs.Option.{option_map}
use Rattle.std.specs.FinMap.{get}
use Rattle.hall_policy.specs.World.{World, IsTesterOf, end_of}
use Rattle.hall_policy.specs.Ranges.{IsWorld, IsAnswer}
use Rattle.hall_policy.specs.Rules.{ListsEntry}
use Rattle.hall_policy.specs.OwnAlike.{is_entrant_alone, seen, as_is}
use Rattle.hall_policy.specs.declared.record.Person.{Person}
use Rattle.hall_policy.specs.declared.record.PuzzleKey.{PuzzleKey}
use Rattle.hall_policy.specs.declared.record.PuzzleRow.{PuzzleRow}
use Rattle.hall_policy.specs.declared.record.Round.{Round}
use Rattle.hall_policy.specs.declared.record.Entry.{Entry}
use Rattle.hall_policy.specs.declared.record.AnswerKey.{AnswerKey}
use Rattle.hall_policy.specs.declared.request.Request.{Request}
use Rattle.hall_store.specs.Caller.{caller_of}
use Rattle.hall_store.specs.Maps.{empty_world}
use Rattle.hall_desk.specs.Shown.{is_sealed}
use Rattle.hall_desk.specs.Sane.{Sane}
use Rattle.hall_desk.specs.Step.{Step}
use Rattle.hall_desk.specs.Run.{IsTimed, Run}
use Rattle.hall_desk.specs.History.{Event, History, IsTyped}
use Rattle.hall_desk.specs.Without.{GrantsNoPublication, stays, without, replies_where, replies_to, certifies, Serve}
use Rattle.hall_desk.specs.Exchanged.{exchanged_list, exchanged_replies, IsSealedRound}
use Rattle.hall_desk.specs.declared.reply.Reply.{Reply}
use Rattle.hall_desk.specs.declared.reply.Reply.TheVariants as reply

-- ---- others

-- from the world, e learns nothing of others who hold the role entrant alone: for a list of requests, and a person e of
-- the world at the list's end who holds the role entrant alone, the replies to e in a run of the list are those in a
-- run of the list without the others' requests. The three premises on the runs: no reply is Unavailable, none grants a
-- publication, and each request to certify that stands in both lists is answered alike in both, so their searches find
-- the same
abbrev pub HidesOthers : World → Type 0
HidesOthers world =
    (last end : World) (e : Person) (list : List (ℕ × Request)) (replies others : List Reply) →
    All IsTimed list → get last.people e.name ≡ Some e → IsTrue (is_entrant_alone e) →
    let left : List (ℕ × Request) = without last e list in
    Run world list replies last → Run world left others end → Serve replies → Serve others →
    All GrantsNoPublication replies → All GrantsNoPublication others →
    replies_where (λ asked. stays last e asked && certifies asked) list replies ≡ replies_where certifies left others →
    replies_to e.key list replies ≡ replies_to e.key left others

-- so it is from each sane world
abbrev pub OthersHidden : Type 0
OthersHidden = (world : World) → Sane world → HidesOthers world

-- and from the world after any life of a hall that began empty
abbrev pub LivesHideOthers : Type 0
LivesHideOthers =
    (world : World) (events : List Event) → All IsTyped events → History empty_world events world → HidesOthers world

-- ---- puzzles before the start

-- the puzzle stands in a released round that has started
abbrev pub HasStarted : World → ℕ → PuzzleKey → Type 0
HasStarted world t key =
    (id : List ℕ) × (round : Round) × (entry : Entry) × (get world.rounds id ≡ Some round) × IsTrue round.released
    × (round.start ≤ t) × ListsEntry world id entry × (entry.puzzle ≡ key)

-- the person of that name is a tester of a round that has the puzzle
abbrev pub TestsPuzzle : World → List ℕ → PuzzleKey → Type 0
TestsPuzzle world name key =
    (id : List ℕ) × (entry : Entry) × IsTesterOf world id name × ListsEntry world id entry × (entry.puzzle ≡ key)

-- the caller, whoever it is, is a tester of no round with a puzzle that differs
abbrev pub TestsNothingElse : World → World → Option Person → Type 0
TestsNothingElse world other None = Unit {0}
TestsNothingElse world other (Some person) =
    (key : PuzzleKey) → TestsPuzzle world person.name key → get world.puzzles key ≡ get other.puzzles key

-- what is kept of the puzzle in both worlds is the same, but for its text, its solution and its state
abbrev pub IsSamePuzzle : Option PuzzleRow → Option PuzzleRow → Type 0
IsSamePuzzle None None = Unit {0}
IsSamePuzzle (Some row) (Some other) = row.key ≡ other.key
IsSamePuzzle None (Some other) = ⊥
IsSamePuzzle (Some row) None = ⊥

-- two worlds differ only in the texts, solutions and states of puzzles, none of which stands in a released round that
-- has started
pub record DifferInPuzzles (world other : World) (t : ℕ) : Type 0 where
  pub people : world.people ≡ other.people
  pub rounds : world.rounds ≡ other.rounds
  pub places : world.places ≡ other.places
  pub testers : world.testers ≡ other.testers
  pub answers : world.answers ≡ other.answers
  pub protests : world.protests ≡ other.protests
  pub puzzles : (key : PuzzleKey) → IsSamePuzzle (get world.puzzles key) (get other.puzzles key)
  pub started : (key : PuzzleKey) → HasStarted world t key → get world.puzzles key ≡ get other.puzzles key

-- the caller holds the role entrant alone, or is a stranger: the request has no key, or one that nobody holds
abbrev pub IsEntrantOrStranger : Option Person → Type 0
IsEntrantOrStranger None = Unit {0}
IsEntrantOrStranger (Some person) = IsTrue (is_entrant_alone person)

-- what two worlds, sane or not, answer to a request of a person who holds the role entrant alone, or of a stranger, is
-- the same where they differ only in puzzles that no started round has, and no round of which the person is a tester,
-- and none of the two is Unavailable
abbrev pub BeforeStart : Type 0
BeforeStart =
    (world other new changed : World) (t : ℕ) (request : Request) (given answered : Reply) →
    IsWorld world → IsWorld other → DifferInPuzzles world other t →
    IsEntrantOrStranger (caller_of world request.key) → TestsNothingElse world other (caller_of world request.key) →
    Step world t request given new → Step other t request answered changed →
    given ≢ reply.Unavailable → answered ≢ reply.Unavailable → given ≡ answered

-- ---- verdicts in a sealed round

-- the round is sealed and not published, and isn't over
abbrev pub hides_round : ℕ → Option Round → Bool
hides_round t None = false
hides_round t (Some round) = is_sealed round.mode && (not round.published && nat_lt t (end_of round))

-- the round of the id hides verdicts at the moment
abbrev pub hides : World → ℕ → List ℕ → Bool
hides world t id = hides_round t (get world.rounds id)

-- two worlds differ only in verdicts of answers, in rounds that hide them
pub record DifferInVerdicts (world other : World) (t : ℕ) : Type 0 where
  pub people : world.people ≡ other.people
  pub puzzles : world.puzzles ≡ other.puzzles
  pub rounds : world.rounds ≡ other.rounds
  pub places : world.places ≡ other.places
  pub testers : world.testers ≡ other.testers
  pub protests : world.protests ≡ other.protests
  pub answers : (key : AnswerKey) → option_map (seen as_is (hides world t)) (get world.answers key)
      ≡ option_map (seen as_is (hides world t)) (get other.answers key)

-- what two worlds, sane or not, answer to a request of a person who holds the role entrant alone, or of a stranger, is
-- the same where they differ only in verdicts that are hidden, and none of the two is Unavailable
abbrev pub SealedVerdicts : Type 0
SealedVerdicts =
    (world other new changed : World) (t : ℕ) (request : Request) (given answered : Reply) →
    IsWorld world → IsWorld other → DifferInVerdicts world other t →
    IsEntrantOrStranger (caller_of world request.key) →
    Step world t request given new → Step other t request answered changed →
    given ≢ reply.Unavailable → answered ≢ reply.Unavailable → given ≡ answered

-- from the world, until a sealed round's end, which of two texts is the answer is hidden: for a sealed round r that is
-- released and has no answer, a list of requests whose moments all lie before r's end, two texts a and b that may be
-- answers, and a person e of the world at the list's end who holds the role entrant alone, the replies to e in a run of
-- the list in which a and b are exchanged are exactly those in a run of the list, with a and b exchanged where answers
-- to r are listed. The two premises on the runs: no reply is Unavailable, and each request to certify is answered alike
-- in both, so their searches find the same
abbrev pub HidesAnswers : World → Type 0
HidesAnswers world =
    (last end : World) (r a b : List ℕ) (round : Round) (e : Person) (list : List (ℕ × Request))
    (replies others : List Reply) →
    All IsTimed list → IsSealedRound world r round list → IsAnswer a → IsAnswer b →
    get last.people e.name ≡ Some e → IsTrue (is_entrant_alone e) →
    let turned : List (ℕ × Request) = exchanged_list r a b list in
    Run world list replies last → Run world turned others end → Serve replies → Serve others →
    replies_where certifies list replies ≡ replies_where certifies turned others →
    replies_to e.key turned others ≡ replies_to e.key list (exchanged_replies r a b list replies)

-- so it is from each sane world
abbrev pub SealedRuns : Type 0
SealedRuns = (world : World) → Sane world → HidesAnswers world

-- and from the world after any life of a hall that began empty
abbrev pub LivesHideAnswers : Type 0
LivesHideAnswers =
    (world : World) (events : List Event) → All IsTyped events → History empty_world events world → HidesAnswers world
