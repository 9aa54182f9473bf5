-- What calls inside a transaction leave.
use Rattle.std.specs.Prelude.{◌≡◌, ℕ, List, [], ◌∷◌, None, Result, Ok, IsTrue, OnOk}
use Rattle.std.specs.FinMap.{get, insert}
use Rattle.sqlite.specs.Effect.{Database, IsDatabase}
use Rattle.sqlite.specs.Order.{Row}
use Rattle.sqlite.specs.State.{State, HasCleanDisk, Executes, KeepsCommit}
use Rattle.hall_policy.specs.World.{World}
use Rattle.hall_policy.specs.declared.record.Person.{Person}
use Rattle.hall_store.specs.Change.{changed}
use Rattle.hall_store.specs.declared.change.Change.{Change}
use Rattle.hall_store.specs.declared.change.Change.TheVariants.{Import}
use Rattle.hall_sql.specs.AllRead.{StaysRead}
use Rattle.hall_sql.specs.Columns.{person_params}
use Rattle.hall_sql.specs.Tables.{IsHallSchema, hall_schema}
use Rattle.hall_sql.specs.Rows.{world_of}
use Rattle.hall_sql.specs.Spared.{may_write, KeptOtherRows}
use Rattle.hall_sql.specs.Standing.{AddsNoOutcome, AreAllKeyed, HasAdded, LeadsConnection}

-- the tables are a hall's, and no two rows of one have one rowid
pub record IsHallData (held : Database) : Type 0 where
  pub schema : IsHallSchema held.schema
  pub keyed : AreAllKeyed held.trees

-- Whether it ran or was refused: no fault is forgotten, only one that is counted shuts the store, and nothing is
-- committed.
pub record LeadsUncommitted (old new : State) : Type 0 where
  pub lasts : LeadsConnection old new
  pub kept : HasCleanDisk new → IsTrue old.in_transaction → KeepsCommit old new
  pub stops : AddsNoOutcome old new

-- Where it ran, the transaction goes on, over the hall's tables, and what it holds is a database as before.
pub record KeptTransaction (old new : State) : Type 0 where
  pub mode : IsTrue new.in_transaction
  pub hall : IsHallData old.now → IsHallData new.now
  pub sound : IsHallData old.now → IsDatabase old.now → IsDatabase new.now

-- a statement that writes rows ran inside a transaction, which goes on over a database
pub record RanInside (sql : List ℕ) (params : Row) (old new : State) : Type 0 where
  pub mode : IsTrue new.in_transaction
  pub sound : IsHallData old.now → IsDatabase new.now
  pub count : ℕ
  pub ran : Executes sql params old new (Ok count)

-- a call inside a transaction ran, and did this to the hall's tables
pub record MakesInside (Does : Database → Database → Type 0) (old new : State) : Type 0 where
  pub steps : KeptTransaction old new
  pub does : IsHallData old.now → Does old.now new.now

-- so does each call there that isn't refused
abbrev pub DoesInside : {R E : Type 0} → State → State → (Database → Database → Type 0) → Result R E → Type 0
DoesInside old new Does result =
    HasCleanDisk new → IsTrue old.in_transaction → OnOk result (MakesInside Does old new)

-- the tables hold the changed world, and each row that the change may not write
pub record Changes (change : Change) (old new : Database) : Type 0 where
  pub world : world_of new.trees ≡ changed change (world_of old.trees)
  pub others : KeptOtherRows (may_write change) old.trees new.trees

-- the world that the tables hold became another in this way
abbrev pub Worlds : (World → World → Type 0) → Database → Database → Type 0
Worlds Relates old new = Relates (world_of old.trees) (world_of new.trees)

-- a query told what has this meaning, and left the tables
pub record ToldByQuery (Means : World → Type 0) (old new : Database) : Type 0 where
  pub same : new ≡ old
  pub means : Means (world_of old.trees)

-- a row of the person is added, which adds the person where the name is unknown, and each other row stays; the row is a
-- record
pub record AddsPerson (person : Person) (old new : Database) : Type 0 where
  pub row : HasAdded hall_schema 0 (person_params person) old new
  pub world : get (world_of old.trees).people person.name ≡ None →
      world_of new.trees
      ≡ record (world_of old.trees) { people = insert (world_of old.trees).people person.name person }
  pub others : KeptOtherRows (may_write (Import (person ∷ []))) old.trees new.trees
  pub read : StaysRead old new
