-- What the statement that adds one row to a table of the hall leaves.
use Rattle.std.proofs.Common.{◌≡◌, ◌/◌, ℕ, List, [], ◌∷◌, length, slice_get, append-nil, Bool, true, IsTrue, Some, None}
use Rattle.std.proofs.Common.{Ok, refl}
use Rattle.sqlite.specs.declared.types.Value.TheVariants.{Null, Int}
use Rattle.sqlite_rules.specs.Cast.{cast_row}
use Rattle.sqlite_rules.specs.Edit.{next_rowid}
use Rattle.sqlite.specs.Order.{Row}
use Rattle.sqlite.specs.Term.{Term}
use Rattle.sqlite.specs.Effect.{Database, value_rows}
use Rattle.sqlite.specs.Source.TheVariants.{Values}
use Rattle.sqlite.specs.Command.TheVariants.{Insert}
use Rattle.sqlite.specs.State.{State, HasCleanDisk, Executes, Writes}
use Rattle.sqlite.specs.Listing.{understood}
use Rattle.sqlite.proofs.Callers.{IsPlain, command_of, runs_as, statement_of}
use Rattle.hall_policy.specs.World.{World}
use Rattle.hall_store.specs.Change.{changed}
use Rattle.hall_store.specs.declared.change.Change.{Change}
use Rattle.hall_sql.specs.declared.tables.HallTable.{HallTable}
use Rattle.hall_sql.specs.AllRead.{IsRead, is_record}
use Rattle.hall_sql.specs.Fill.{AddsRow}
use Rattle.hall_sql.specs.Inside.{IsHallData}
use Rattle.hall_sql.specs.Rows.{world_of}
use Rattle.hall_sql.specs.Spared.{may_write, KeptOtherRows}
use Rattle.hall_sql.specs.Standing.{AreKeyed, HasAdded, IsHall, HasMade}
use Rattle.hall_sql.specs.Tables.{hall_schema, table_at}
use Rattle.hall_sql.proofs.AllRead.{added_read}
use Rattle.hall_sql.proofs.CallLemmas.{executed_open}
use Rattle.hall_sql.proofs.InsertLemmas.{inserts}
use Rattle.hall_sql.proofs.KeyedLemmas.{data_added}
use Rattle.hall_sql.proofs.Queries.{in_table}
use Rattle.hall_sql.proofs.SparedLemmas.{added_spared, alone_spared}
use Rattle.hall_sql.proofs.Wordings.{Wording, added_in, adds_quiet, hall_in, table_in, worded}
use Rattle.hall_sql.proofs.WriteLemmas.{writes_hall}

-- where one row was added, all others are spared if that one may be written
pub added_spares : (takes : ℕ → Row → Bool) (tree : ℕ) (values : Row) (old new : Database)
    → HasAdded hall_schema tree values old new → takes tree (Int (next_rowid (old.trees tree)) ∷ values) ≡ true
    → KeptOtherRows takes old.trees new.trees
added_spares takes tree values old new it own =
    alone_spared takes tree old.trees new.trees
    (added_spared (takes tree) (old.trees tree) (new.trees tree) (Int (next_rowid (old.trees tree)) ∷ values) own
    it.free it.put) it.others

-- In any words of the hall's tables the text is an INSERT of one row of these values into the table, which keeps them
-- as they are.
pub record IsInsert (table : HallTable) (sql : List ℕ) (values : Row) : Type 0 where
  pub at : ℕ
  pub terms : List Term
  pub width : ℕ
  pub there : (u : Wording) → slice_get (hall_in u).tables at ≡ Some (table_in u table)
  pub is : (u : Wording) → (command_of (understood (hall_in u) sql) ≡ Insert at (Values terms width))
      × IsPlain (understood (hall_in u) sql)
  pub source : value_rows values width (length terms / width) terms ≡ (Null ∷ values) ∷ []
  pub casts : cast_row (table_at table) (Null ∷ values) ≡ Null ∷ values

module _ (table : HallTable) (sql : List ℕ) (values : Row) (text : IsInsert table sql values) (old new : State)
    (count : ℕ) (ran : Executes sql values old new (Ok count)) where
  abbrev tree : ℕ
  tree = (table_at table).tree

  abbrev added : Row
  added = Int (next_rowid (old.now.trees tree)) ∷ values

  -- in the words of the tables
  module _ (u : Wording) (has : old.now.schema ≡ hall_in u) where
    writes : Writes old new None (Insert text.at (Values text.terms text.width))
        (statement_of sql (understood (hall_in u) sql)) values count
    writes =
        runs_as sql values old new (hall_in u) has (Insert text.at (Values text.terms text.width)) (text.is u).0
        (text.is u).1 count ran

    -- no foreign key acts
    adds : HasAdded hall_schema tree values old.now new.now
    adds =
        added_in u tree values old.now new.now
        (inserts (hall_in u) text.at (table_in u table) (text.there u) refl text.terms text.width values (Null ∷ values)
        values (append-nil values) text.source text.casts (λ row. adds_quiet (hall_in u) tree (row ∷ [])) old new _
        count has writes)

  -- the table has one row more, and the tables are a hall's
  pub row_added : IsHallData old.now → IsHallData new.now × HasAdded hall_schema tree values old.now new.now
  row_added held =
      let (u, words) = worded old.now.schema held.schema in
      let it = adds u words in
      let keyed = in_table (λ n. AreKeyed (old.now.trees n)) table held.keyed in
      (data_added tree values old.now new.now it held keyed, it)

  -- where it is a record, the world has it too
  pub row_put : {X : Type 0} (With : World → X → World → Type 0) (x : X) → IsTrue (is_record tree added)
      → (HasAdded hall_schema tree values old.now new.now → With (world_of old.now.trees) x (world_of new.now.trees))
      → IsHallData old.now → IsHallData new.now × AddsRow tree With values old.now x new.now
  row_put With x reads world held =
      let (after, it) = row_added held in
      let read = added_read tree values old.now new.now it reads (in_table (IsRead old.now.trees) table) in
      (after, record { row = it; world = world it; read = read })

  -- outside of a transaction it makes the change that adds the record
  pub row_made : (change : Change) → IsHall old → HasCleanDisk old → may_write change tree added ≡ true
      → (HasAdded hall_schema tree values old.now new.now → IsTrue old.is_open
      → world_of new.now.trees ≡ changed change (world_of old.now.trees))
      → HasMade change old new
  row_made change hall clean own world =
      let mode = hall.autocommit clean in
      let was = executed_open old new sql values count mode ran in
      let has = (hall.settled clean was).1 in
      let (after, it) = row_added (record { schema = has; keyed = hall.keyed clean was }) in
      let (u, words) = worded old.now.schema has in
      let w = writes u words in
      record {
        hall = writes_hall old new _ _ _ count mode w after.schema after.keyed;
        was_open = was;
        serves = w.shown.is_open;
        world = world it was;
        others = added_spares (may_write change) tree values old.now new.now it own;
      }
