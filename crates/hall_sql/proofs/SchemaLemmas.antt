-- The tables and indexes that `created` makes are those of which src/tables.rt tells.
use Rattle.std.proofs.Common.{◌≡◌, [], map, take, refl, sym, subst, ◌∙◌}
use Rattle.std.specs.List.{AllZip}
use Rattle.std.specs.Fmt.{digits}
use Rattle.sqlite.specs.Schema.{Schema}
use Rattle.hall_sql.specs.Tables.{IsHallSchema, IsLikeTable, IsOldSchema, hall_schema, old_schema, table_at}
use Rattle.hall_sql.specs.Tables.{hall_indexes}
use Rattle.hall_sql.specs.Made.{all_tables, old_tables}

old_tables_are : map table_at old_tables ≡ old_schema.tables
old_tables_are = refl

hall_tables_are : map table_at all_tables ≡ hall_schema.tables
hall_tables_are = refl

old_indexes_are : take 8 hall_indexes ≡ old_schema.indexes
unfolding digits
old_indexes_are = refl

hall_indexes_are : hall_indexes ≡ hall_schema.indexes
unfolding digits
hall_indexes_are = refl

pub old_is : (s : Schema) → AllZip IsLikeTable (map table_at old_tables) s.tables → s.indexes ≡ take 8 hall_indexes
    → s.views ≡ [] → IsOldSchema s
old_is s tables indexes views = record {
  tables = subst (λ ts. AllZip IsLikeTable ts s.tables) old_tables_are tables;
  indexes = indexes ∙ old_indexes_are;
  views = views;
}

pub indexes_of_old : (s : Schema) → IsOldSchema s → s.indexes ≡ take 8 hall_indexes
indexes_of_old s is = is.indexes ∙ sym old_indexes_are

pub tables_of_old : (s : Schema) → IsOldSchema s → AllZip IsLikeTable (map table_at old_tables) s.tables
tables_of_old s is = subst (λ ts. AllZip IsLikeTable ts s.tables) (sym old_tables_are) is.tables

pub hall_is : (s : Schema) → AllZip IsLikeTable (map table_at all_tables) s.tables → s.indexes ≡ hall_indexes
    → s.views ≡ [] → IsHallSchema s
hall_is s tables indexes views = record {
  tables = subst (λ ts. AllZip IsLikeTable ts s.tables) hall_tables_are tables;
  indexes = indexes ∙ hall_indexes_are;
  views = views;
}

pub indexes_of_hall : (s : Schema) → IsHallSchema s → s.indexes ≡ hall_indexes
indexes_of_hall s is = is.indexes ∙ sym hall_indexes_are

pub tables_of_hall : (s : Schema) → IsHallSchema s → AllZip IsLikeTable (map table_at all_tables) s.tables
tables_of_hall s is = subst (λ ts. AllZip IsLikeTable ts s.tables) (sym hall_tables_are) is.tables
