-- What the store keeps true of its connection, and what a call leaves.
use Rattle.std.specs.Prelude.{◌≡◌, ◌≢◌, ◌≤◌, ◌⊎◌, ℕ, Bool, true, false, List, [], ◌∷◌, map, IsTrue, Result, Ok, Err}
use Rattle.std.specs.Prelude.{None}
use Rattle.std.specs.List.{AllByRecursion, filter, list_all}
use Rattle.std.specs.List.Sorted.{IsPermutation, IsSorted}
use Rattle.std.specs.declared.cmp.Ordering.TheVariants.{Equal}
use Rattle.sqlite_value.specs.Order.{value_cmp}
use Rattle.sqlite_trees.specs.Tree.{rowid, put_row, without_rowid}
use Rattle.sqlite_rules.specs.Edit.{next_rowid, is_taken, id_in}
use Rattle.sqlite.specs.declared.types.Value.TheVariants.{Int}
use Rattle.sqlite.specs.Effect.{Database}
use Rattle.sqlite.specs.Schema.{Schema}
use Rattle.sqlite_trees.specs.View.{doubt, is_int}
use Rattle.sqlite.specs.Order.{Row}
use Rattle.sqlite.specs.Tree.{Trees}
use Rattle.sqlite.specs.Term.{holds, eval_all}
use Rattle.sqlite.specs.Query.{Query, output, output_cmp}
use Rattle.sqlite.specs.State.{State, HasCleanDisk, IsUnchanged, IsRolledBack}
use Rattle.hall_store.specs.Store.{MoreFaults}
use Rattle.hall_store.specs.Change.{changed}
use Rattle.hall_store.specs.declared.change.Change.{Change}
use Rattle.hall_sql.specs.Tables.{IsLike, IsHallSchema, IsOldSchema, no_schema, hall_schema, old_schema}
use Rattle.hall_sql.specs.Rows.{world_of}
use Rattle.hall_sql.specs.Spared.{may_write, KeptOtherRows}
use Rattle.hall_sql.specs.Stands.{IsBareHall}

-- the rowids of the two rows differ
abbrev pub Apart : Row → Row → Type 0
Apart a b = value_cmp (rowid a) (rowid b) ≢ Equal

-- no two of the rows have one rowid
abbrev pub AreDistinct : List Row → Type 0
AreDistinct [] = Unit {0}
AreDistinct (row ∷ rows) = AllByRecursion (Apart row) rows × AreDistinct rows

-- the rowids are integers, and none stands twice
pub record AreKeyed (rows : List Row) : Type 0 where
  pub ints : AllByRecursion (λ row. IsTrue (is_int (rowid row))) rows
  pub distinct : AreDistinct rows

-- The rowids of each of these tables are integers, and none stands twice in it. No clause of a connection says so.
abbrev pub AreKeyedIn : Schema → Trees → Type 0
AreKeyedIn schema trees = AllByRecursion (λ table. AreKeyed (trees table.tree)) schema.tables

-- so it is in the hall's tables
abbrev pub AreAllKeyed : Trees → Type 0
AreAllKeyed = AreKeyedIn hall_schema

-- a stop in the call, or after it, leaves a database that a stop before it could leave
abbrev pub AddsNoOutcome : State → State → Type 0
AddsNoOutcome old new = HasCleanDisk new → (db : Trees) → new.may_leave db → old.may_leave db

-- a stop in the call, or after it, leaves a database that a stop before it could leave, or one of these
abbrev pub AddsOutcomes : (Trees → Type 0) → State → State → Type 0
AddsOutcomes Among old new = HasCleanDisk new → (db : Trees) → new.may_leave db → old.may_leave db ⊎ Among db

-- No transaction is open, and the steps of a query have no limit. Where the store still serves, all is committed, and
-- the tables are like those of the schema.
pub record IsTabled (schema : Schema) (s : State) : Type 0 where
  pub unlimited : s.step_limit ≡ None
  pub autocommit : HasCleanDisk s → s.in_transaction ≡ false
  pub settled : HasCleanDisk s → IsTrue s.is_open → (s.now ≡ s.committed) × IsLike schema s.now.schema
  pub keyed : HasCleanDisk s → IsTrue s.is_open → AreKeyedIn schema s.now.trees

-- so it is with the hall's tables
abbrev pub IsHall : State → Type 0
IsHall = IsTabled hall_schema

-- the connection, had it no limit on the steps of a query
abbrev pub without_limit : State → State
without_limit s = record s { step_limit = None }

-- no fault is forgotten, only a fault that is counted shuts the store, and the limit on the steps of a query stays
pub record LeadsConnection (old new : State) : Type 0 where
  pub clean : doubt old.is_clean ≤ doubt new.is_clean
  pub counts : old.faults ≤ new.faults
  pub closes : HasCleanDisk new → IsTrue old.is_open → IsTrue new.is_open ⊎ MoreFaults old.faults new.faults
  pub limit : new.step_limit ≡ old.step_limit

-- so it was left, and a store that is shut stays so
pub record LeadsWithoutReopening (old new : State) : Type 0 where
  pub lasts : LeadsConnection old new
  pub opened : HasCleanDisk new → IsTrue new.is_open → IsTrue old.is_open

-- the connection was left as it was, or it was rolled back
abbrev pub KeptOrRolledBack : State → State → Type 0
KeptOrRolledBack old new = IsUnchanged old new ⊎ IsRolledBack old new

-- the tables are as they were, while the store serves, and still those of the schema
pub record KeptRowsIn (schema : Schema) (old new : State) : Type 0 where
  pub tabled : IsTabled schema new
  pub follows : LeadsWithoutReopening old new
  pub same : HasCleanDisk new → IsTrue new.is_open → new.now ≡ old.now

-- so it is with the hall's tables
abbrev pub KeptRows : State → State → Type 0
KeptRows = KeptRowsIn hall_schema

-- they are as they were, also after a stop
pub record KeptTablesIn (schema : Schema) (old new : State) : Type 0 where
  pub tabled : IsTabled schema new
  pub follows : LeadsWithoutReopening old new
  pub same : HasCleanDisk new → IsTrue new.is_open → new.now ≡ old.now
  pub stops : AddsNoOutcome old new

-- so it is with the hall's tables
abbrev pub KeptTables : State → State → Type 0
KeptTables = KeptTablesIn hall_schema

-- the tables are like those of a schema, and each schema that is like it is so
pub record IsOver (Fits : Schema → Type 0) (s : State) : Type 0 where
  pub schema : Schema
  pub tabled : IsTabled schema s
  pub fits : (found : Schema) → IsLike schema found → Fits found

-- the tables are as they were, while the store serves, whichever schema's they are
abbrev pub KeptAnyTables : State → State → Type 0
KeptAnyTables old new = (schema : Schema) → IsTabled schema old → KeptTablesIn schema old new

-- the rows of a table that meet WHERE, in an order that ORDER BY allows, as the columns that are shown
pub record IsSelection (q : Query) (table : List Row) (params : Row) (rows : List Row) : Type 0 where
  pub found : List Row
  pub same : IsPermutation (filter (λ row. list_all (holds (params ∷ row ∷ [])) q.filter) table) found
  pub sorted : IsSorted (λ a b. output_cmp q (output q (params ∷ a ∷ [])) (output q (params ∷ b ∷ []))) found
  pub shown : rows ≡ map (λ row. eval_all q.project (params ∷ row ∷ [])) found

-- the table in this tree has one row more, with a rowid of its own, and each other table is as it was
pub record HasAdded (schema : Schema) (tree : ℕ) (values : Row) (old new : Database) : Type 0 where
  pub same : new.schema ≡ old.schema
  pub free : is_taken (old.trees tree) (Int (next_rowid (old.trees tree)) ∷ values) ≡ false
  pub put : new.trees tree ≡ put_row (Int (next_rowid (old.trees tree)) ∷ values) (old.trees tree)
  pub others : AllByRecursion (λ table. table.tree ≢ tree → new.trees table.tree ≡ old.trees table.tree) schema.tables

-- the one row that passes was taken out, and what is made of it was put in
pub record IsReplaced (keeps : Row → Bool) (made : Row → Row) (rows out : List Row) : Type 0 where
  pub one : Row
  pub found : filter keeps rows ≡ one ∷ []
  pub free : is_taken (without_rowid (id_in (rowid one)) rows) (made one) ≡ false
  pub put : out ≡ put_row (made one) (without_rowid (id_in (rowid one)) rows)

-- so it was done to the table in this tree, and each other table is as it was
pub record HasReplaced (schema : Schema) (tree : ℕ) (keeps : Row → Bool) (made : Row → Row) (old new : Database)
    : Type 0 where
  pub same : new.schema ≡ old.schema
  pub rows : IsReplaced keeps made (old.trees tree) (new.trees tree)
  pub keyed : AreKeyed (new.trees tree)
  pub others : AllByRecursion (λ table. table.tree ≢ tree → new.trees table.tree ≡ old.trees table.tree) schema.tables

-- a statement ran, made the change, and left each row that the change may not write
pub record HasMade (change : Change) (old new : State) : Type 0 where
  pub hall : IsHall (without_limit new)
  pub was_open : IsTrue old.is_open
  pub serves : IsTrue new.is_open
  pub world : world_of new.now.trees ≡ changed change (world_of old.now.trees)
  pub others : KeptOtherRows (may_write change) old.now.trees new.now.trees

-- the database has this schema, and its tables no rows
pub record IsBareDatabase (schema : Schema) (held : Database) : Type 0 where
  pub is : held.schema ≡ schema
  pub empty : AllByRecursion (λ table. held.trees table.tree ≡ []) schema.tables

-- the tables are like those of the schema, and hold no row
pub record IsBareLike (schema : Schema) (held : Database) : Type 0 where
  pub is : IsLike schema held.schema
  pub empty : AllByRecursion (λ table. held.trees table.tree ≡ []) schema.tables

-- A hall's tables stood and are as they were, or there was nothing, and they were made and hold no row.
abbrev pub StoodOrEmpty : State → State → Type 0
StoodOrEmpty old new =
    (IsHallSchema old.now.schema × (new.now ≡ old.now))
    ⊎ ((old.now.schema ≡ no_schema) × IsBareDatabase hall_schema new.now)

-- A stop in the call, or after it, leaves a database that a stop before it could leave; or there was no table, and it
-- leaves the hall's, all of them, without a row.
abbrev pub MakesAtMost : State → State → Type 0
MakesAtMost old new = AddsOutcomes (λ db. (old.now.schema ≡ no_schema) × IsBareHall db) old new

-- The tables of a connection on which no transaction was open became those of the schema, in this way, with no limit
-- on the steps of a query any more. So where they stood, a stop leaves what it could leave before.
pub record HasAdoptedIn (schema : Schema) (Stood : State → State → Type 0) (old new : State) : Type 0 where
  pub alone : old.in_transaction ≡ false
  pub hall : IsTabled schema new
  pub follows : LeadsWithoutReopening (without_limit old) new
  pub serves : HasCleanDisk new → IsTrue new.is_open
  pub stood : HasCleanDisk new → Stood old new
  pub stops : MakesAtMost old new

-- a hall's tables stood or were made
abbrev pub HasAdopted : State → State → Type 0
HasAdopted = HasAdoptedIn hall_schema StoodOrEmpty

-- the tables of the version before stood
abbrev pub HasAdoptedOld : State → State → Type 0
HasAdoptedOld = HasAdoptedIn old_schema (λ old new. IsOldSchema old.now.schema × (new.now ≡ old.now))

-- A connection was refused. Its limit on the steps of a query is as it was, and so is whether a transaction is open,
-- with the savepoints of an open one; while the store serves, so are the tables and what is committed of them.
pub record HasDeclined (old new : State) : Type 0 where
  pub follows : LeadsWithoutReopening old new
  pub mode : HasCleanDisk new → new.in_transaction ≡ old.in_transaction
  pub marks : HasCleanDisk new → IsTrue old.in_transaction → new.marks ≡ old.marks
  pub same : HasCleanDisk new → IsTrue new.is_open → (new.now ≡ old.now) × (new.committed ≡ old.committed)

-- a connection with a hall's tables, or with none, is taken over; one that is refused is left as it was
abbrev pub Adopts : {R E : Type 0} → State → State → Result R E → Type 0
Adopts old new (Ok done) = HasAdopted old new
Adopts old new (Err fault) = HasDeclined old new

-- a connection with tables of the version before is taken over, and one with others is left
abbrev pub AdoptsOld : {E : Type 0} → State → State → Result Bool E → Type 0
AdoptsOld old new (Ok true) = HasAdoptedOld old new
AdoptsOld old new (Ok false) = HasDeclined old new × (HasCleanDisk new → ¬ IsOldSchema old.now.schema)
AdoptsOld old new (Err fault) = HasDeclined old new

-- so it did, but for a limit on the steps of a query, which is still to be lifted
abbrev pub ReadiesOld : {E : Type 0} → State → State → Result Bool E → Type 0
ReadiesOld old new (Ok true) = HasAdoptedOld old (without_limit new)
ReadiesOld old new (Ok false) = HasDeclined old new × (HasCleanDisk new → ¬ IsOldSchema old.now.schema)
ReadiesOld old new (Err fault) = HasDeclined old new

-- so it does, but for a limit on the steps of a query, which is still to be lifted
abbrev pub Readies : {R E : Type 0} → State → State → Result R E → Type 0
Readies old new (Ok done) = HasAdopted old (without_limit new)
Readies old new (Err fault) = HasDeclined old new
