-- Why a connection may refuse a call, other than out of memory: as its state alone tells.
use Rattle.std.specs.Prelude.{◌≡◌, ◌⊎◌, ◌+◌, ℕ, false, List, ◌∷◌, drop, take, length, Some}
use Rattle.std.specs.List.{filter}
use Rattle.std.specs.FinMap.{get}
use Rattle.sqlite.specs.Effect.{Database}
use Rattle.sqlite.specs.State.{State, HasCleanDisk}
use Rattle.sqlite.specs.Tree.{Trees}
use Rattle.hall_policy.specs.declared.record.Person.{Person}
use Rattle.hall_policy.specs.declared.record.ProtestRow.{ProtestRow}
use Rattle.hall_policy.specs.declared.record.PuzzleRow.{PuzzleRow}
use Rattle.hall_policy.specs.declared.record.Round.{Round}
use Rattle.hall_store.specs.Change.{flagged}
use Rattle.hall_store.specs.Store.{MoreFaults}
use Rattle.hall_store.specs.declared.change.Change.{Change}
use Rattle.hall_store.specs.declared.change.Change.TheVariants.{Nothing, Import, PutPuzzle, SetState}
use Rattle.hall_store.specs.declared.change.Change.TheVariants.{PutRound, SetRoundFlag, AddAnswer}
use Rattle.hall_store.specs.declared.change.Change.TheVariants.{AddAnswers, AddProtest, RuleProtest}
use Rattle.hall_sql.specs.AllRead.{AreAllRead}
use Rattle.hall_sql.specs.Columns.{answer_params, person_params, protest_params, ruling_params, stands_under}
use Rattle.hall_sql.specs.Fill.{AddsAnswer}
use Rattle.hall_sql.specs.FillCause.{IsNextRefused, RefusesToAddAnswer}
use Rattle.hall_sql.specs.Inside.{IsHallData}
use Rattle.hall_sql.specs.RoundColumns.{head_params}
use Rattle.hall_sql.specs.Rows.{world_of}
use Rattle.hall_sql.specs.Tables.{hall_schema}
use Rattle.hall_sql.specs.WriteCause.{IsStatementRefused, PuzzleIsRefused, IsHeadRefused, RestIsRefused, IsUnknown}
use Rattle.hall_sql.specs.WriteCause.{ImportsEach}
use Rattle.hall_sql.specs.declared.answers.TheConstants.{ADD_ANSWER}
use Rattle.hall_sql.specs.declared.people.TheConstants.{ADD_PERSON}
use Rattle.hall_sql.specs.declared.protests.TheConstants.{ADD_PROTEST, RULE_PROTEST}
use Rattle.hall_sql.specs.declared.round_writes.TheConstants.{REPLACE_HEAD}

-- ---- what is kept

-- a row of the tables is no record
abbrev pub KeepsBadRow : Trees → Type 0
KeepsBadRow trees = ¬ (AreAllRead hall_schema trees)

-- ---- what is refused

-- Those before one person of the list are imported, and a row of the tables is then no record, or that one's name is
-- unknown, and the statement that adds the person is refused.
pub record RefusesPerson (people : List Person) (old : Database) : Type 0 where
  pub at : ℕ
  pub person : Person
  pub next : drop at people ≡ person ∷ drop (at + 1) people
  pub mid : Database
  pub hall : IsHallData mid
  pub before : ImportsEach (take at people) old mid
  pub refused : KeepsBadRow mid.trees
      ⊎ (IsUnknown person.name mid × IsStatementRefused ADD_PERSON.now (person_params person) mid)

-- the statement that puts the puzzle under its key is refused
abbrev pub RefusesPuzzle : PuzzleRow → Database → Type 0
RefusesPuzzle row db = PuzzleIsRefused row (length (filter (stands_under row.key) (db.trees 3))) db

-- a statement of the change is refused: by a rule of the tables, for want of a rowid, or as too large a row
abbrev pub RefusesChange : Change → Database → Type 0
RefusesChange Nothing db = ⊥
RefusesChange (Import people) db = RefusesPerson people db
RefusesChange (PutPuzzle row) db = RefusesPuzzle row db
RefusesChange (SetState key known) db =
    (row : PuzzleRow) × (get (world_of db.trees).puzzles key ≡ Some row)
    × RefusesPuzzle (record row { state = known }) db
RefusesChange (PutRound row) db = IsHeadRefused row.round db ⊎ RestIsRefused row db
RefusesChange (SetRoundFlag id flag) db =
    (round : Round) × (get (world_of db.trees).rounds id ≡ Some round)
    × IsStatementRefused REPLACE_HEAD.now (head_params (flagged flag round)) db
RefusesChange (AddAnswer row) db = IsStatementRefused ADD_ANSWER.now (answer_params row) db
RefusesChange (AddAnswers rows) db = IsNextRefused AddsAnswer RefusesToAddAnswer rows db
RefusesChange (AddProtest row) db = IsStatementRefused ADD_PROTEST.now (protest_params row) db
RefusesChange (RuleProtest key ruling) db =
    (row : ProtestRow) × (get (world_of db.trees).protests key ≡ Some row)
    × IsStatementRefused RULE_PROTEST.now (ruling_params key (Some ruling)) db

-- ---- all of it

-- Why a call in which the device didn't fail may have been refused for another cause than being out of memory, where
-- the disk is clean: the connection is shut, or its tables are bad in this sense.
abbrev pub HasReason : (Database → Type 0) → State → Type 0
HasReason Bad s = HasCleanDisk s → (s.is_open ≡ false) ⊎ Bad s.now

-- why one that reads may: a row of the tables is no record
abbrev pub CanFail : State → Type 0
CanFail = HasReason (λ db. KeepsBadRow db.trees)

-- why one may to which nothing that the tables keep is a cause: the device has failed in it, or it is shut
abbrev pub StoreCanFail : State → State → Type 0
StoreCanFail old new = MoreFaults old.faults new.faults ⊎ HasReason (λ _. ⊥) new

-- why one that makes the change may: a row of the tables is no record, or they refuse this change
abbrev pub CanRefuse : Change → State → Type 0
CanRefuse change = HasReason (λ db. KeepsBadRow db.trees ⊎ RefusesChange change db)
