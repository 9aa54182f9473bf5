-- The rows of the tables that are no record, by their rowids, and the tables that take no more rows.
use Rattle.std.specs.Prelude.{◌≡◌, ◌≢◌, ◌↔◌, Bool, false, ℕ, ℤ, pos, List, [], map, not, is_some, Option, IsTrue}
use Rattle.std.specs.Prelude.{Result, IfOk}
use Rattle.std.specs.List.{AllByRecursion, AllZip, filter}
use Rattle.std.specs.List.Sorted.{IsPermutation}
use Rattle.sqlite.specs.declared.types.Value.TheVariants.{Int}
use Rattle.sqlite.specs.Order.{Row}
use Rattle.sqlite.specs.Schema.{Schema}
use Rattle.sqlite.specs.State.{HasCleanDisk, State, Shown}
use Rattle.sqlite.specs.Tree.{Trees}
use Rattle.sqlite_trees.specs.Tree.{rowid}
use Rattle.sqlite_value.specs.Order.{column}
use Rattle.hall_store.specs.Store.{Fails}
use Rattle.hall_store.specs.declared.fault.StoreFault.{StoreFault}
use Rattle.hall_sql.specs.AllRead.{is_record}
use Rattle.hall_sql.specs.Cause.{IsStoreCause}
use Rattle.hall_sql.specs.Scan.{Serves, tree_of}
use Rattle.hall_sql.specs.Standing.{KeptAnyTables}
use Rattle.hall_sql.specs.Values.{int_in}
use Rattle.hall_sql.specs.Versions.{HasTable}
use Rattle.hall_sql.specs.declared.bad_rows.BadRows.{BadRows}
use Rattle.hall_sql.specs.declared.tables.HallTable.{HallTable}

-- those of the rows that are no record of this kind
abbrev pub no_records : {X : Type 0} → (Row → Option X) → List Row → List Row
no_records read rows = filter (λ row. not (is_some (read row))) rows

-- the rowid that a row of an answer shows in the column
abbrev pub rowid_in : ℕ → Row → Option ℤ
rowid_in at row = int_in (column row at)

-- the greatest rowid that there is: where a row has it, none can be added
abbrev pub last_rowid : ℤ
last_rowid = pos 9223372036854775807

-- none of the rows of an answer shows it in the column
abbrev pub IsRoomLeft : ℕ → List Row → Type 0
IsRoomLeft at rows = AllByRecursion (λ row. column row at ≢ Int last_rowid) rows

-- no row of the table in this tree has it
abbrev pub HasRoom : Trees → ℕ → Type 0
HasRoom trees tree = AllByRecursion (λ row. rowid row ≢ Int last_rowid) (trees tree)

-- these numbers stand in a column of those rows that are no record, and whether one of all has the greatest rowid there
abbrev pub AreBadAmong : {X : Type 0} → (Row → Option X) → ℕ → List Row → List ℤ → Bool → Type 0
AreBadAmong read at rows ids full =
    (map Int ids ≡ map (λ row. column row at) (no_records read rows)) × ((full ≡ false) ↔ IsRoomLeft at rows)

-- the query's answer over the tables as they were, in a store that serves, has these numbers in a column of those rows
-- that are no record of this kind; and the table is told as full where one of its numbers is the greatest rowid
pub record AreBadIn {X : Type 0} (read : Row → Option X) (table : HallTable) (at : ℕ) (sql : List ℕ) (old new : State)
    (bad : BadRows) : Type 0 where
  pub serves : IsTrue new.is_open
  pub which : bad.table ≡ table
  pub rows : List Row
  pub shown : Shown sql [] old new rows
  pub among : AreBadAmong read at rows bad.rowids.items bad.is_full

-- these are the rowids of all rows of the table in this tree that are no record, in some order; and it is told as full
-- where one of its rows has the greatest rowid
pub record AreBadRows (trees : Trees) (tree : ℕ) (bad : BadRows) : Type 0 where
  pub rows : List Row
  pub same : IsPermutation (filter (λ row. not (is_record tree row)) (trees tree)) rows
  pub are : map Int bad.rowids.items ≡ map rowid rows
  pub room : (bad.is_full ≡ false) ↔ HasRoom trees tree

-- so it is of the table as it was, in a store that serves
abbrev pub AreFoundBad : HallTable → State → State → BadRows → Type 0
AreFoundBad table old new bad =
    IsTrue new.is_open × (bad.table ≡ table) × AreBadRows old.now.trees (tree_of table) bad

-- a look at the table leaves all tables as they were, tells so, and fails for no cause but the store's
pub record FindsBad (table : HallTable) (old new : State) (result : Result BadRows StoreFault) : Type 0 where
  pub rested : KeptAnyTables old new
  pub bad : HasCleanDisk new → IfOk result (AreFoundBad table old new)
  pub cause : HasCleanDisk new → Fails (IsStoreCause old new) result

-- the schema has each of the tables
abbrev pub HasTables : List HallTable → Schema → Type 0
HasTables tables schema = AllByRecursion (HasTable schema) tables

-- of each of the tables in turn, the rowids of all its rows that are no record, and whether it is full
abbrev pub AreAllBad : List HallTable → Trees → List BadRows → Type 0
AreAllBad tables trees bad =
    AllZip (λ table rows. (rows.table ≡ table) × AreBadRows trees (tree_of table) rows) tables bad

-- so it is of the tables as they were, in a store that serves where it was asked for any
abbrev pub AreToldBad : List HallTable → State → State → List BadRows → Type 0
AreToldBad tables old new bad = Serves tables new × AreAllBad tables old.now.trees bad

-- no row is told, and no table as full
abbrev pub AreNone : List BadRows → Type 0
AreNone bad = AllByRecursion (λ rows. (rows.rowids.items ≡ []) × (rows.is_full ≡ false)) bad

-- a row can be added to each of the tables
abbrev pub HaveRoom : List HallTable → Trees → Type 0
HaveRoom tables trees = AllByRecursion (λ table. HasRoom trees (tree_of table)) tables
