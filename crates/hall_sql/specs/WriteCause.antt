-- Why a write to the tables answers that it failed.
use Rattle.std.specs.Prelude.{◌≡◌, ◌≢◌, ◌⊎◌, ◌+◌, ℕ, true, false, suc, zero, List, [], ◌∷◌, drop, take, length}
use Rattle.std.specs.Prelude.{Option, Some, None, Result, Ok, Err, IsTrue, OnOk, OnErr}
use Rattle.std.specs.FinMap.{get}
use Rattle.sqlite_schema.specs.declared.command.Command.{Command}
use Rattle.sqlite_schema.specs.declared.command.Command.TheVariants.{Insert, Update, Delete}
use Rattle.sqlite_schema.specs.declared.schema.Keys.TheVariants.{Enforced}
use Rattle.sqlite_trees.specs.declared.store.Store.{Ghosts}
use Rattle.sqlite.proofs.Callers.{command_of, statement_of}
use Rattle.sqlite.specs.declared.run.Mode.{Mode}
use Rattle.sqlite.specs.declared.error.Error.{Error}
use Rattle.sqlite.specs.declared.error.Error.TheVariants.{SqliteFailure}
use Rattle.sqlite.specs.declared.error.ErrorCode.TheVariants.{OutOfMemory}
use Rattle.sqlite.specs.declared.types.Value.TheVariants.{Text}
use Rattle.sqlite.specs.Does.{Does}
use Rattle.sqlite.specs.Effect.{Database, IsDatabase}
use Rattle.sqlite.specs.Given.{IsPlain}
use Rattle.sqlite.specs.Held.{Held, state}
use Rattle.sqlite.specs.Listing.{understood}
use Rattle.sqlite.specs.Order.{Row}
use Rattle.sqlite.specs.Schema.{Schema}
use Rattle.sqlite.specs.State.{State, HasCleanDisk, Executes, ExecutesInside, FailsToQuery, IsTooLate, Shown}
use Rattle.sqlite.specs.State.{CommitsBy, Survives}
use Rattle.hall_grid.specs.Canonical.{CanonicalText}
use Rattle.hall_policy.specs.declared.record.Entry.{Entry}
use Rattle.hall_policy.specs.declared.record.Person.{Person}
use Rattle.hall_policy.specs.declared.record.ProtestKey.{ProtestKey}
use Rattle.hall_policy.specs.declared.record.ProtestRow.{ProtestRow}
use Rattle.hall_policy.specs.declared.record.PuzzleKey.{PuzzleKey}
use Rattle.hall_policy.specs.declared.record.PuzzleRow.{PuzzleRow}
use Rattle.hall_policy.specs.declared.record.PuzzleState.{PuzzleState}
use Rattle.hall_policy.specs.declared.record.Round.{Round}
use Rattle.hall_policy.specs.declared.record.RoundRow.{RoundRow}
use Rattle.hall_policy.specs.declared.record.Ruling.{Ruling}
use Rattle.hall_store.specs.Change.{flagged}
use Rattle.hall_store.specs.Store.{Fails}
use Rattle.hall_store.specs.declared.change.RoundFlag.{RoundFlag}
use Rattle.hall_store.specs.declared.fault.StoreFault.{StoreFault}
use Rattle.hall_sql.specs.Asked.{is_whole}
use Rattle.hall_sql.specs.Cause.{IsStoreCause, IsAnyUnread, ReadFails}
use Rattle.hall_sql.specs.Columns.{person_params, puzzle_params, ruling_params, HasSoMany}
use Rattle.hall_sql.specs.Inside.{IsHallData}
use Rattle.hall_sql.specs.RoundColumns.{head_params, place_params, tester_params, HasSoManyHeads}
use Rattle.hall_sql.specs.RoundPuts.{PutsHead, DropsPlaces, PutsPlaces, PutsList, DropsTesters, PutsTesters}
use Rattle.hall_sql.specs.Rows.{world_of, person_in, puzzle_row_in, protest_in, round_in}
use Rattle.hall_sql.specs.declared.people.TheConstants.{ADD_PERSON, PERSON}
use Rattle.hall_sql.specs.declared.puzzles.TheConstants.{ADD_PUZZLE, REPLACE_PUZZLE, PUZZLE}
use Rattle.hall_sql.specs.declared.rounds.TheConstants.{HEAD}
use Rattle.hall_sql.specs.declared.round_writes.TheConstants.{ADD_HEAD, REPLACE_HEAD, DROP_PLACES, ADD_PLACE}
use Rattle.hall_sql.specs.declared.protests.TheConstants.{RULE_PROTEST, PROTEST}
use Rattle.hall_sql.specs.declared.testers.TheConstants.{DROP_TESTERS, ADD_TESTER}
use Rattle.hall_sql.specs.Standing.{HasAdded, KeptRows, LeadsConnection}
use Rattle.hall_sql.specs.Tables.{IsHallSchema, hall_schema}

-- ---- one statement

-- the command writes rows of one table
abbrev pub IsEdit : Command → Type 0
IsEdit (Insert at from) = Unit
IsEdit (Update at q) = Unit
IsEdit (Delete at q) = Unit
IsEdit _ = ⊥

-- over the tables of the schema the text is one statement that writes rows, of these parameters
pub record IsWrittenIn (sql : List ℕ) (params : Row) (schema : Schema) : Type 0 where
  pub plain : IsPlain (understood schema sql)
  pub whole : is_whole sql (length params) (understood schema sql) ≡ true
  pub edits : IsEdit (command_of (understood schema sql))

-- over the tables of a hall, also where another made them, the text is one statement that writes rows
abbrev pub IsWritten : List ℕ → Row → Type 0
IsWritten sql params = (schema : Schema) → IsHallSchema schema → IsWrittenIn sql params schema

-- the keys between tables are to hold after each statement
abbrev pub enforced : Mode
enforced = record { keys = Enforced; in_doubt = false; may_wait = false }

-- A rule of the tables refuses what the statement would make of them, or a row that it would make is too large to be
-- kept, or no rowid is left for it.
abbrev pub IsStatementRefused : List ℕ → Row → Database → Type 0
IsStatementRefused sql params db =
    (stop : Option Error)
    × Does None enforced params db (statement_of sql (understood db.schema sql)) None
    (command_of (understood db.schema sql)) (Err stop)

-- Why a statement that writes rows fails: the cause lies in the store, or it is refused over the tables as they were.
abbrev pub RunFails : List ℕ → Row → State → State → Type 0
RunFails sql params old new = IsStoreCause old new ⊎ IsStatementRefused sql params old.now

-- the connection refused the statement, though not by being out of memory
abbrev pub Refuses : List ℕ → Row → State → State → Type 0
Refuses sql params old new = (e : Error) × (e ≢ SqliteFailure OutOfMemory) × Executes sql params old new (Err e)

-- the statement ran, or was refused, and then the tables are as they were; a stop in it leaves what it may commit
pub record IsRun {R : Type 0} (sql : List ℕ) (params : Row) (old new : State) (result : Result R StoreFault)
    : Type 0 where
  pub lasts : LeadsConnection old new
  pub refused : OnErr result (KeptRows old new)
  pub survives : Survives old new (CommitsBy sql params old)
  pub ran : HasCleanDisk new → OnOk result ((count : ℕ) × Executes sql params old new (Ok count))

-- a statement inside a transaction was refused so
abbrev pub RefusesInside : List ℕ → Row → State → State → Type 0
RefusesInside sql params old new =
    (e : Error) × (e ≢ SqliteFailure OutOfMemory) × ExecutesInside 0 sql params old new (Err e)

-- and a query there
abbrev pub RefusesToAsk : List ℕ → Row → State → State → Type 0
RefusesToAsk sql params old new =
    (e : Error) × (e ≢ SqliteFailure OutOfMemory)
    × (FailsToQuery sql params old new e ⊎ IsTooLate sql params old new e)

-- ---- puzzles

-- the statement that puts a puzzle, as its canonical text, where so many rows stand under its key is refused; more than
-- one never do
abbrev pub PuzzleIsRefused : PuzzleRow → ℕ → Database → Type 0
PuzzleIsRefused row zero db =
    (text : List ℕ) × CanonicalText text row.puzzle × IsStatementRefused ADD_PUZZLE.now (puzzle_params text row) db
PuzzleIsRefused row (suc zero) db =
    (text : List ℕ) × CanonicalText text row.puzzle × IsStatementRefused REPLACE_PUZZLE.now (puzzle_params text row) db
PuzzleIsRefused row (suc (suc more)) db = ⊥

-- why a put of a puzzle fails
abbrev pub PutPuzzleFails : PuzzleRow → State → State → Type 0
PutPuzzleFails row old new =
    IsStoreCause old new ⊎ ((count : ℕ) × HasSoMany row.key old count × PuzzleIsRefused row count old.now)

-- Why a puzzle's state isn't set: the puzzle can't be read, or it can't be put in that state.
abbrev pub SetStateFails : PuzzleKey → PuzzleState → State → State → Type 0
SetStateFails key known old new =
    ReadFails puzzle_row_in PUZZLE.now (Text key.author ∷ Text key.label ∷ []) old new
    ⊎ ((row : PuzzleRow) × (get (world_of old.now.trees).puzzles key ≡ Some row)
    × PutPuzzleFails (record row { state = known }) old new)

-- ---- protests

-- Why a ruling fails: the protest can't be read, or there is one, and the statement that rules it is refused.
abbrev pub RuleFails : ProtestKey → Ruling → State → State → Type 0
RuleFails key ruling old new =
    ReadFails protest_in PROTEST.now (Text key.entrant ∷ Text key.round ∷ Text key.token ∷ []) old new
    ⊎ ((row : ProtestRow) × (get (world_of old.now.trees).protests key ≡ Some row)
    × RunFails RULE_PROTEST.now (ruling_params key (Some ruling)) old new)

-- ---- rounds

-- Why a flag isn't set: the round's head can't be read, or the statement that replaces it is refused.
abbrev pub SetFlagFails : List ℕ → RoundFlag → State → State → Type 0
SetFlagFails id flag old new =
    ReadFails round_in HEAD.now (Text id ∷ []) old new
    ⊎ ((round : Round) × (get (world_of old.now.trees).rounds id ≡ Some round)
    × RunFails REPLACE_HEAD.now (head_params (flagged flag round)) old new)

-- the statement that puts a head where so many rows stand under its id is refused; more than one never do
abbrev pub HeadIsRefused : Round → ℕ → Database → Type 0
HeadIsRefused round zero db = IsStatementRefused ADD_HEAD.now (head_params round) db
HeadIsRefused round (suc zero) db = IsStatementRefused REPLACE_HEAD.now (head_params round) db
HeadIsRefused round (suc (suc more)) db = ⊥

-- the statement that puts the head is refused, over as many rows as stand under its id
abbrev pub IsHeadRefused : Round → Database → Type 0
IsHeadRefused round db = (count : ℕ) × HasSoManyHeads round.id db count × HeadIsRefused round count db

-- the entries before one stand at their places, and the statement that puts it is refused there
pub record PlaceIsRefused (id : List ℕ) (entries : List Entry) (old : Database) : Type 0 where
  pub at : ℕ
  pub entry : Entry
  pub next : drop at entries ≡ entry ∷ drop (at + 1) entries
  pub placed : Database
  pub hall : IsHallData placed
  pub puts : PutsPlaces id (take at entries) old placed
  pub refused : IsStatementRefused ADD_PLACE.now (place_params id (at + 1) entry) placed

-- the list before is taken out, and one of the new entries is refused
pub record EntriesAreRefused (id : List ℕ) (entries : List Entry) (old : Database) : Type 0 where
  pub bare : Database
  pub hall : IsHallData bare
  pub drops : DropsPlaces id old bare
  pub refused : PlaceIsRefused id entries bare

-- the statement that takes the list before out is refused, or the new list is
abbrev pub ListIsRefused : List ℕ → List Entry → Database → Type 0
ListIsRefused id entries old = IsStatementRefused DROP_PLACES.now (Text id ∷ []) old ⊎ EntriesAreRefused id entries old

-- the testers before one are put, and the statement that puts it is refused there
pub record TesterIsRefused (id : List ℕ) (names : List (List ℕ)) (old : Database) : Type 0 where
  pub at : ℕ
  pub name : List ℕ
  pub next : drop at names ≡ name ∷ drop (at + 1) names
  pub placed : Database
  pub hall : IsHallData placed
  pub puts : PutsTesters id (take at names) old placed
  pub refused : IsStatementRefused ADD_TESTER.now (tester_params id name) placed

-- the testers before are taken out, and one of the new ones is refused
pub record NamesAreRefused (id : List ℕ) (names : List (List ℕ)) (old : Database) : Type 0 where
  pub bare : Database
  pub hall : IsHallData bare
  pub drops : DropsTesters id old bare
  pub refused : TesterIsRefused id names bare

-- the statement that takes the testers before out is refused, or the new ones are
abbrev pub TesterListIsRefused : List ℕ → List (List ℕ) → Database → Type 0
TesterListIsRefused id names old = IsStatementRefused DROP_TESTERS.now (Text id ∷ []) old ⊎ NamesAreRefused id names old

-- the list is put, and then the testers are refused
pub record LastIsRefused (row : RoundRow) (old : Database) : Type 0 where
  pub listed : Database
  pub hall : IsHallData listed
  pub puts : PutsList row.round.id row.puzzles old listed
  pub refused : TesterListIsRefused row.round.id row.testers listed

-- the head is put, and then its list is refused, or its testers
pub record RestIsRefused (row : RoundRow) (old : Database) : Type 0 where
  pub headed : Database
  pub hall : IsHallData headed
  pub puts : PutsHead row.round old headed
  pub refused : ListIsRefused row.round.id row.puzzles headed ⊎ LastIsRefused row headed

-- why a put of a round fails
abbrev pub PutRoundFails : RoundRow → State → State → Type 0
PutRoundFails row old new =
    IsStoreCause old new ⊎ (IsHeadRefused row.round old.now ⊎ RestIsRefused row old.now)

-- ---- people

-- the query for a person's name answers rows of which one is no person
abbrev pub IsUnfound : List ℕ → State → State → Type 0
IsUnfound name old new =
    (rows : List Row) × Shown PERSON.now (Text name ∷ []) old new rows × IsAnyUnread person_in rows

-- nobody of that name is known
abbrev pub IsUnknown : List ℕ → Database → Type 0
IsUnknown name held = get (world_of held.trees).people name ≡ None

-- so it does, or the name is unknown, and the statement that adds the person is refused
abbrev pub PersonIsRefused : Person → State → State → Type 0
PersonIsRefused person old new =
    IsUnfound person.name old new
    ⊎ (IsUnknown person.name old.now × IsStatementRefused ADD_PERSON.now (person_params person) old.now)

-- where the name is unknown, the person's row is added, and else nothing
abbrev pub ImportsOne : Person → Database → Database → Type 0
ImportsOne person old new =
    (IsUnknown person.name old × HasAdded hall_schema 0 (person_params person) old new)
    ⊎ ((¬ IsUnknown person.name old) × (new ≡ old))

-- so for each of the people, one after another
abbrev pub ImportsEach : List Person → Database → Database → Type 0
ImportsEach [] old new = new ≡ old
ImportsEach (person ∷ rest) old new = (next : Database) × ImportsOne person old next × ImportsEach rest next new

-- those before one person of the list are imported, and that one is refused
pub record OneIsRefused {S : Type 0} (g : Ghosts S) (people : List Person) (old : Database) : Type 0 where
  pub at : ℕ
  pub person : Person
  pub next : drop at people ≡ person ∷ drop (at + 1) people
  pub mid : Held S
  pub left : Held S
  pub hall : IsHallData (state g mid).now
  pub before : ImportsEach (take at people) old (state g mid).now
  pub refused : PersonIsRefused person (state g mid) (state g left)

-- why an import fails
abbrev pub ImportFails : {S : Type 0} → Ghosts S → List Person → State → State → Type 0
ImportFails {S} g people old new = IsStoreCause old new ⊎ OneIsRefused g people old.now

-- ---- inside a transaction

-- a transaction is under way over the hall's tables, which obey their rules
pub record IsUnderWay (s : State) : Type 0 where
  pub mode : IsTrue s.in_transaction
  pub unlimited : s.step_limit ≡ None
  pub hall : IsHallData s.now
  pub sound : IsDatabase s.now

-- why a call inside it fails
abbrev pub InsideFails : {R : Type 0} → State → State → Type 0 → Result R StoreFault → Type 0
InsideFails old new Why result = HasCleanDisk new → IsUnderWay old → Fails Why result
