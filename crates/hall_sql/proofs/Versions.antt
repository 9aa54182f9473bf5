-- What is said of the hall's tables of either version.
use Rattle.std.proofs.Common.{◌≡◌, inl, inr, ℕ, List, [], ◌∷◌, flat_map, map, Bool, true, false, ◌&&◌, Some}
use Rattle.std.proofs.Common.{option_to_list, IsTrue, Result, IfOk, refl, ◌∙◌}
use Rattle.std.proofs.lemmas.Bool.{and_parts}
use Rattle.std.specs.Cmp.{IsTotalOrder}
use Rattle.std.specs.declared.cmp.Ordering.{Ordering}
use Rattle.std.specs.FinMap.{IsAntisymmetric, values}
use Rattle.std.specs.List.{AllByRecursion, list_any}
use Rattle.std.specs.List.Sorted.{IsPermutation}
use Rattle.sqlite_schema.specs.declared.schema.Constraint.TheVariants.{Unique}
use Rattle.sqlite_schema.specs.Rules.{agree, clashes, differ, passes}
use Rattle.sqlite_trees.proofs.ListLemmas.{all_weaker, filter_all, all_of}
use Rattle.sqlite_trees.specs.Tree.{rowid}
use Rattle.sqlite_value.specs.Keys.{plain}
use Rattle.sqlite_typing.specs.Types.{accepts_program}
use Rattle.sqlite_value.specs.declared.keys.Key.{Key}
use Rattle.sqlite.specs.Command.TheVariants.{Select}
use Rattle.sqlite.specs.Effect.{IsDatabase}
use Rattle.sqlite.specs.Listing.{understood, reads_listing}
use Rattle.sqlite.specs.Order.{Row}
use Rattle.sqlite.specs.Schema.{Schema}
use Rattle.sqlite.specs.State.{State, HasCleanDisk, Shown}
use Rattle.sqlite.specs.Term.{Term}
use Rattle.sqlite.specs.Tree.{Trees}
use Rattle.sqlite.proofs.Callers.{IsPlain, command_of}
use Rattle.hall_policy.specs.World.{World}
use Rattle.hall_store.specs.Store.{Served}
use Rattle.hall_sql.specs.declared.tables.HallTable.{HallTable}
use Rattle.hall_sql.specs.declared.tables.HallTable.TheVariants.{People, Puzzles, Rounds, Places, Answers, Protests}
use Rattle.hall_sql.specs.declared.tables.HallTable.TheVariants.{Testers}
use Rattle.hall_sql.specs.Asked.{IsAskedIn, is_whole}
use Rattle.hall_sql.specs.Made.{all_tables, old_tables}
use Rattle.hall_sql.specs.Tables.{shape_of}
use Rattle.hall_sql.specs.Rows.{kept, world_of}
use Rattle.hall_sql.specs.Scan.{tree_of}
use Rattle.hall_sql.specs.Standing.{AreKeyed, AreKeyedIn, IsOver, KeptAnyTables}
use Rattle.hall_sql.specs.Content.{content_of}
use Rattle.hall_sql.specs.Statements.{plain_query}
use Rattle.hall_sql.specs.Tables.{IsHallSchema, IsOldSchema, table_at}
use Rattle.hall_sql.specs.Versions.{IsVersion, IsAnyHall, HasTable}
use Rattle.hall_sql.proofs.AskedLemmas.{asked}
use Rattle.hall_sql.proofs.ListedLemmas.{values_asked}
use Rattle.hall_sql.proofs.Queries.{Computes, RecordOf, by_order, query, record_in, record_of}
use Rattle.hall_sql.proofs.StoreLemmas.{told}
use Rattle.hall_sql.proofs.UniqueLemmas.{first_not}
use Rattle.hall_sql.proofs.Wordings.{Wording, by_hall, by_old, hall_in, old_in, trees_like}

-- what holds of each version's schema
pub by_version : (P : Schema → Type 0) → ((u : Wording) → P (old_in u)) → ((u : Wording) → P (hall_in u))
    → (schema : Schema) → IsVersion schema → P schema
by_version P before now schema (inl like) = by_old P before schema like
by_version P before now schema (inr like) = by_hall P now schema like

-- tables of a version are tables of a schema
pub over_any : {Fits : Schema → Type 0} {s : State} → IsAnyHall s → ((schema : Schema) → IsVersion schema → Fits schema)
    → IsOver Fits s
over_any hall fits = record {
  schema = hall.schema;
  tabled = hall.tabled;
  fits = λ found like. fits found
      (hall.fits found like);
}

-- what a query over tables of a version tells has its meaning in the world that stays
pub told_any : {R E : Type 0} (old new : State) (result : Result R E) (P : R → Type 0) (Means : World → R → Type 0)
    → IsAnyHall old → KeptAnyTables old new
    → (HasCleanDisk new → IfOk result P) → ((x : R) → P x → IsTrue new.is_open)
    → ((x : R) → P x → IsTrue old.is_open → (schema : Schema) → IsVersion schema → old.now.schema ≡ schema
    → AreKeyedIn schema old.now.trees → Means (world_of old.now.trees) x)
    → Served (content_of new) result Means
told_any old new result P Means hall rested has serves means =
    told {schema = hall.schema} old new result P Means hall.tabled (rested hall.schema hall.tabled) has serves
    (λ x it clean opened like keyed.
    means x it opened old.now.schema (hall.fits old.now.schema like) refl
    (trees_like (λ n. AreKeyed (old.now.trees n)) hall.schema old.now.schema like keyed))

-- a table of the schema is keyed
abbrev Keyed : ℕ → Trees → Schema → Type 0
Keyed tree trees schema = AreKeyedIn schema trees → AreKeyed (trees tree)

pub keyed_in : (schema : Schema) (table : HallTable) (trees : Trees) → HasTable schema table
    → Keyed (tree_of table) trees schema
keyed_in schema People trees = by_version (Keyed 0 trees) (λ u k. k.0) (λ u k. k.0) schema
keyed_in schema Puzzles trees = by_version (Keyed 3 trees) (λ u k. k.1.0) (λ u k. k.1.0) schema
keyed_in schema Rounds trees = by_version (Keyed 5 trees) (λ u k. k.1.1.0) (λ u k. k.1.1.0) schema
keyed_in schema Places trees = by_version (Keyed 7 trees) (λ u k. k.1.1.1.0) (λ u k. k.1.1.1.0) schema
keyed_in schema Answers trees = by_version (Keyed 9 trees) (λ u k. k.1.1.1.1.0) (λ u k. k.1.1.1.1.0) schema
keyed_in schema Protests trees = by_version (Keyed 12 trees) (λ u k. k.1.1.1.1.1.0) (λ u k. k.1.1.1.1.1.0) schema
keyed_in schema Testers trees = by_hall (Keyed 14 trees) (λ u k. k.1.1.1.1.1.1.0) schema

-- another row has the columns of the row's primary key
abbrev is_repeated : HallTable → List Row → Row → Bool
is_repeated table rows row =
    list_any (λ other. agree plain (shape_of table).primary other (shape_of table).primary row && differ (rowid other)
    (rowid row)) rows

-- a table of the schema repeats no row
abbrev IsUnique : HallTable → Trees → Schema → Type 0
IsUnique table trees schema =
    IsDatabase (record { schema = schema; trees = trees })
    → AllByRecursion (λ row. is_repeated table (trees (tree_of table)) row ≡ false) (trees (tree_of table))

from_rule : (schema : Schema) (table : HallTable) (trees : Trees)
    → ((row : Row) → passes Unique schema trees (table_at table) row ≡ true
    → is_repeated table (trees (tree_of table)) row ≡ false)
    → AllByRecursion (λ row. passes Unique schema trees (table_at table) row ≡ true) (trees (tree_of table))
    → AllByRecursion (λ row. is_repeated table (trees (tree_of table)) row ≡ false) (trees (tree_of table))
from_rule schema table trees weaker all = all_weaker _ _ weaker (trees (tree_of table)) all

pub unique_in : (schema : Schema) (table : HallTable) (trees : Trees) → HasTable schema table
    → IsUnique table trees schema
unique_in schema People trees =
    by_version (IsUnique People trees) (λ u d. from_rule (old_in u) People trees (λ row h. first_not _ _ h)
    (d.obeys.rules Unique).0)
    (λ u d. from_rule (hall_in u) People trees (λ row h. first_not _ _ h) (d.obeys.rules Unique).0) schema
unique_in schema Puzzles trees =
    by_version (IsUnique Puzzles trees) (λ u d. from_rule (old_in u) Puzzles trees (λ row h. first_not _ _ h)
    (d.obeys.rules Unique).1.0)
    (λ u d. from_rule (hall_in u) Puzzles trees (λ row h. first_not _ _ h) (d.obeys.rules Unique).1.0) schema
unique_in schema Rounds trees =
    by_version (IsUnique Rounds trees) (λ u d. from_rule (old_in u) Rounds trees (λ row h. first_not _ _ h)
    (d.obeys.rules Unique).1.1.0)
    (λ u d. from_rule (hall_in u) Rounds trees (λ row h. first_not _ _ h) (d.obeys.rules Unique).1.1.0) schema
unique_in schema Places trees =
    by_version (IsUnique Places trees) (λ u d. from_rule (old_in u) Places trees (λ row h. first_not _ _ h)
    (d.obeys.rules Unique).1.1.1.0)
    (λ u d. from_rule (hall_in u) Places trees (λ row h. first_not _ _ h) (d.obeys.rules Unique).1.1.1.0) schema
unique_in schema Answers trees =
    by_version (IsUnique Answers trees) (λ u d. from_rule (old_in u) Answers trees (λ row h. first_not _ _ h)
    (d.obeys.rules Unique).1.1.1.1.0)
    (λ u d. from_rule (hall_in u) Answers trees (λ row h. first_not _ _ h) (d.obeys.rules Unique).1.1.1.1.0) schema
unique_in schema Protests trees =
    by_version (IsUnique Protests trees) (λ u d. from_rule (old_in u) Protests trees (λ row h. first_not _ _ h)
    (d.obeys.rules Unique).1.1.1.1.1.0)
    (λ u d. from_rule (hall_in u) Protests trees (λ row h. first_not _ _ h) (d.obeys.rules Unique).1.1.1.1.1.0) schema
unique_in schema Testers trees =
    by_hall (IsUnique Testers trees) (λ u d. from_rule (hall_in u) Testers trees (λ row h. first_not _ _ h)
    (d.obeys.rules Unique).1.1.1.1.1.1.0) schema

-- nor do two people of a hall have one key
abbrev HasOwnKeys : Trees → Schema → Type 0
HasOwnKeys trees schema =
    IsDatabase (record { schema = schema; trees = trees })
    → AllByRecursion (λ row. clashes plain (2 ∷ []) (trees 0) row ≡ false) (trees 0)

pub own_keys : (schema : Schema) (trees : Trees) → IsHallSchema schema → HasOwnKeys trees schema
own_keys schema trees =
    by_hall (HasOwnKeys trees) (λ u d. all_weaker _ _ (λ row h. first_not _ _ (and_parts _ _ h).1) (trees 0)
    (d.obeys.rules Unique).0) schema

-- What is computed of a text over a schema: it asks for all rows of the table in this tree, in this order.
pub record AsksAll (text : List ℕ) (tree : ℕ) (project : List Term) (order : List (Term × Key)) (names : List (List ℕ))
    (schema : Schema) : Type 0 where
  pub is : command_of (understood schema text) ≡ Select (record { lets = []; body = plain_query tree [] project order })
      names
  pub unlisted : reads_listing schema text ≡ false
  pub plain : IsPlain (understood schema text)
  pub whole : is_whole text 0 (understood schema text) ≡ true
  pub typed : accepts_program schema [] (plain_query tree [] project order) [] ≡ true

module _ {text : List ℕ} {tree : ℕ} {project : List Term} {order : List (Term × Key)} {names : List (List ℕ)}
    {schema : Schema}
    (all : AsksAll text tree project order names schema) where
  pub asked_all : IsAskedIn text [] schema
  asked_all = asked text [] tree [] project order names all.is all.unlisted all.plain all.whole all.typed

-- the records of the answer of a query of all rows of a table are the map's values, where the table's are
pub all_listed : {table : HallTable} {text : List ℕ} {order : List ℕ} {schema : Schema}
    → Computes (query table text [] [] order) schema → {K : Type 0} {R : K → K → Ordering} → IsTotalOrder R
    → IsAntisymmetric R → (key : RecordOf table → K)
    → ((a b : Row) (x y : RecordOf table) → record_of table a ≡ Some x → record_of table b ≡ Some y
    → by_order (query table text [] [] order) a b ≡ R (key x) (key y))
    → (old new : State) → old.now.schema ≡ schema
    → IsPermutation (flat_map (λ r. option_to_list (record_of table r)) (old.now.trees (tree_of table)))
    (values (kept R key (record_of table) (old.now.trees (tree_of table))))
    → (rows : List Row) (out : List (RecordOf table)) → map (record_in table) rows ≡ map Some out
    → Shown text [] old new rows → out ≡ values (kept R key (record_of table) (old.now.trees (tree_of table)))
all_listed {table} computes {K} {R} total same key keyed old new has whole rows out is shown =
    let all = values (kept R key (record_of table) (old.now.trees (tree_of table))) in
    values_asked computes old new rows out has shown is (λ _. true) (λ r x h. refl) total same key whole keyed
    ∙ filter_all (λ _. true) all (all_of (λ _. true ≡ true) (λ _. refl) all)

-- each of these tables is in the schema
pub all_there : (schema : Schema) → IsHallSchema schema → AllByRecursion (HasTable schema) all_tables
all_there schema is = (inr is, (inr is, (inr is, (inr is, (inr is, (inr is, (is, tt)))))))

pub old_there : (schema : Schema) → IsOldSchema schema → AllByRecursion (HasTable schema) old_tables
old_there schema is = (inl is, (inl is, (inl is, (inl is, (inl is, (inl is, tt))))))
