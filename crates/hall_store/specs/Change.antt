-- What one call of the store makes of the world, and what it asks of its caller.
use Rattle.std.specs.Prelude.{◌≡◌, ◌≢◌, ◌+◌, ℕ, true, not, List, [], ◌∷◌, Option, Some, None, Contains, if◌then◌else◌}
use Rattle.std.specs.FinMap.{FinMap, get, contains_key, insert, retain_keys}
use Rattle.hall_policy.specs.Text.{text_cmp}
use Rattle.hall_policy.specs.World.{World, answer_cmp, place_cmp, tester_cmp, same_text}
use Rattle.hall_policy.specs.Rules.{Conflicts}
use Rattle.hall_policy.specs.declared.record.Person.{Person}
use Rattle.hall_policy.specs.declared.record.Entry.{Entry}
use Rattle.hall_policy.specs.declared.record.AnswerRow.{AnswerRow}
use Rattle.hall_policy.specs.declared.record.ProtestKey.{ProtestKey}
use Rattle.hall_policy.specs.declared.record.ProtestRow.{ProtestRow}
use Rattle.hall_policy.specs.declared.record.Ruling.{Ruling}
use Rattle.hall_policy.specs.declared.record.PuzzleKey.{PuzzleKey}
use Rattle.hall_policy.specs.declared.record.PuzzleRow.{PuzzleRow}
use Rattle.hall_policy.specs.declared.record.PuzzleState.{PuzzleState}
use Rattle.hall_policy.specs.declared.record.Round.{Round}
use Rattle.hall_policy.specs.declared.record.RoundRow.{RoundRow}
use Rattle.hall_store.specs.declared.change.Change.{Change}
use Rattle.hall_store.specs.declared.change.Change.TheVariants.{Nothing, Import, PutPuzzle, SetState}
use Rattle.hall_store.specs.declared.change.Change.TheVariants.{PutRound, SetRoundFlag, AddAnswer, AddAnswers}
use Rattle.hall_store.specs.declared.change.Change.TheVariants.{AddProtest}
use Rattle.hall_store.specs.declared.change.Change.TheVariants.{RuleProtest}
use Rattle.hall_store.specs.declared.change.RoundFlag.{RoundFlag}
use Rattle.hall_store.specs.declared.change.RoundFlag.TheVariants.{Released, Published}

-- the people, and this one too where the name is unknown
abbrev pub with_person : FinMap text_cmp Person → Person → FinMap text_cmp Person
with_person people person = if contains_key people person.name then people else insert people person.name person

-- the people, and those of the list whose names are unknown
abbrev pub with_people : FinMap text_cmp Person → List Person → FinMap text_cmp Person
with_people people [] = people
with_people people (person ∷ rest) = with_people (with_person people person) rest

-- the puzzles, that of the key in this state
abbrev pub with_state : World → PuzzleKey → PuzzleState → Option PuzzleRow → World
with_state world key state None = world
with_state world key state (Some row) =
    record world { puzzles = insert world.puzzles key (record row { state = state }) }

-- the places of all rounds but this one
abbrev pub without_list : FinMap place_cmp Entry → List ℕ → FinMap place_cmp Entry
without_list places id = retain_keys places (λ key. not (same_text key.round id))

-- the places, and the entries at theirs in the round, numbered from the given number on
abbrev pub with_list : FinMap place_cmp Entry → List ℕ → ℕ → List Entry → FinMap place_cmp Entry
with_list places id number [] = places
with_list places id number (entry ∷ entries) =
    insert (with_list places id (number + 1) entries) (record { round = id; number = number }) entry

-- the places, those of the round being its entries, numbered from 1
abbrev pub relisted : FinMap place_cmp Entry → List ℕ → List Entry → FinMap place_cmp Entry
relisted places id entries = with_list (without_list places id) id 1 entries

-- the testers of all rounds but this one
abbrev pub without_testers_of : FinMap tester_cmp (Unit {0}) → List ℕ → FinMap tester_cmp (Unit {0})
without_testers_of testers id = retain_keys testers (λ key. not (same_text key.round id))

-- the testers, and those of these names in the round
abbrev pub with_testers : FinMap tester_cmp (Unit {0}) → List ℕ → List (List ℕ) → FinMap tester_cmp (Unit {0})
with_testers testers id [] = testers
with_testers testers id (name ∷ names) =
    insert (with_testers testers id names) (record { round = id; name = name }) tt

-- the testers, those of the round being the ones of these names
abbrev pub retested : FinMap tester_cmp (Unit {0}) → List ℕ → List (List ℕ) → FinMap tester_cmp (Unit {0})
retested testers id names = with_testers (without_testers_of testers id) id names

-- the round with the flag set
abbrev pub flagged : RoundFlag → Round → Round
flagged Released round = record round { released = true }
flagged Published round = record round { published = true }

-- the rounds, that of the id with the flag set
abbrev pub with_flag : World → List ℕ → RoundFlag → Option Round → World
with_flag world id flag None = world
with_flag world id flag (Some round) = record world { rounds = insert world.rounds id (flagged flag round) }

-- the protests, that of the key ruled so
abbrev pub with_ruling : World → ProtestKey → Ruling → Option ProtestRow → World
with_ruling world key ruling None = world
with_ruling world key ruling (Some row) =
    record world { protests = insert world.protests key (record row { ruling = Some ruling }) }

-- the answers, and these, one after another
abbrev pub with_answers : FinMap answer_cmp AnswerRow → List AnswerRow → FinMap answer_cmp AnswerRow
with_answers answers [] = answers
with_answers answers (row ∷ rows) = with_answers (insert answers row.key row) rows

-- the world after a change
abbrev pub changed : Change → World → World
changed Nothing world = world
changed (Import people) world = record world { people = with_people world.people people }
changed (PutPuzzle row) world = record world { puzzles = insert world.puzzles row.key row }
changed (SetState key state) world = with_state world key state (get world.puzzles key)
changed (PutRound row) world = record world {
  rounds = insert world.rounds row.round.id row.round;
  places = relisted world.places row.round.id row.puzzles;
  testers = retested world.testers row.round.id row.testers;
}
changed (SetRoundFlag id flag) world = with_flag world id flag (get world.rounds id)
changed (AddAnswer row) world = record world { answers = insert world.answers row.key row }
changed (AddAnswers rows) world = record world { answers = with_answers world.answers rows }
changed (AddProtest row) world = record world { protests = insert world.protests row.key row }
changed (RuleProtest key ruling) world = with_ruling world key ruling (get world.protests key)

-- nobody in the list contradicts what is known
abbrev pub CanImport : World → List Person → Type 0
CanImport world people = (person : Person) → Contains people person → ¬ (Conflicts world person)

-- the author is there
abbrev pub CanPutPuzzle : World → PuzzleRow → Type 0
CanPutPuzzle world row = (person : Person) × (get world.people row.key.author ≡ Some person)

-- the puzzle is there
abbrev pub CanSetState : World → PuzzleKey → Type 0
CanSetState world key = (row : PuzzleRow) × (get world.puzzles key ≡ Some row)

-- the puzzles of the round's list are there, and so are the people who test it
pub record CanPutRound (world : World) (row : RoundRow) : Type 0 where
  pub puzzles : (entry : Entry) → Contains row.puzzles entry → get world.puzzles entry.puzzle ≢ None
  pub testers : (name : List ℕ) → Contains row.testers name → get world.people name ≢ None

-- the round is there
abbrev pub CanSetFlag : World → List ℕ → Type 0
CanSetFlag world id = (round : Round) × (get world.rounds id ≡ Some round)

-- the key is new, what the row refers to is there, and no answer of the entrant to the puzzle in the round has its n
pub record CanAddAnswer (world : World) (row : AnswerRow) : Type 0 where
  pub fresh : get world.answers row.key ≡ None
  pub entrant : (person : Person) × (get world.people row.key.entrant ≡ Some person)
  pub place : (entry : Entry)
      × (get world.places (record { round = row.key.round; number = row.key.number }) ≡ Some entry)
  pub next : (token : List ℕ) (other : AnswerRow) →
      get world.answers
      (record { entrant = row.key.entrant; round = row.key.round; number = row.key.number; token = token })
      ≡ Some other → other.n ≢ row.n

-- each of the answers may be added after those before it
abbrev pub CanAddAnswers : World → List AnswerRow → Type 0
CanAddAnswers world [] = Unit {0}
CanAddAnswers world (row ∷ rows) =
    CanAddAnswer world row × CanAddAnswers (record world { answers = insert world.answers row.key row }) rows

-- the key is new, and what the row refers to is there
pub record CanAddProtest (world : World) (row : ProtestRow) : Type 0 where
  pub fresh : get world.protests row.key ≡ None
  pub entrant : (person : Person) × (get world.people row.key.entrant ≡ Some person)
  pub place : (entry : Entry)
      × (get world.places (record { round = row.key.round; number = row.number }) ≡ Some entry)

-- the protest is there
abbrev pub CanRuleProtest : World → ProtestKey → Type 0
CanRuleProtest world key = (row : ProtestRow) × (get world.protests key ≡ Some row)

-- the change may be made
abbrev pub CanMake : Change → World → Type 0
CanMake Nothing world = Unit {0}
CanMake (Import people) world = CanImport world people
CanMake (PutPuzzle row) world = CanPutPuzzle world row
CanMake (SetState key state) world = CanSetState world key
CanMake (PutRound row) world = CanPutRound world row
CanMake (SetRoundFlag id flag) world = CanSetFlag world id
CanMake (AddAnswer row) world = CanAddAnswer world row
CanMake (AddAnswers rows) world = CanAddAnswers world rows
CanMake (AddProtest row) world = CanAddProtest world row
CanMake (RuleProtest key ruling) world = CanRuleProtest world key
