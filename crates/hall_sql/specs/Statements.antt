-- The form of a query, and the statement that asks for a table's rowids. The other statements stand in src.
use Rattle.std.specs.Prelude.{List, [], ℕ, pos, negsuc, map, None, false}
use Rattle.sqlite.specs.Collation.TheVariants.{Binary}
use Rattle.sqlite.specs.declared.types.Value.TheVariants.{Int}
use Rattle.sqlite_schema.specs.declared.schema.Column.{Column}
use Rattle.sqlite_sql.specs.declared.ops.BinaryOp.TheVariants.{Compare}
use Rattle.sqlite_sql.specs.declared.ops.CompareOp.TheVariants.{Eq, Gt, Le}
use Rattle.sqlite_value.specs.declared.keys.Key.{Key}
use Rattle.sqlite.specs.Term.{Term, lit, col, op2}
use Rattle.sqlite.specs.Query.{Query, inner, end}
use Rattle.hall_sql.specs.declared.tables.HallTable.{HallTable}
use Rattle.hall_sql.specs.declared.tables.HallTable.TheVariants.{People, Puzzles, Rounds, Places, Answers, Protests}
use Rattle.hall_sql.specs.declared.tables.HallTable.TheVariants.{Testers}
use Rattle.hall_sql.specs.declared.tables.TheConstants.{PEOPLE_ROWIDS, PUZZLES_ROWIDS, ROUNDS_ROWIDS, PLACES_ROWIDS}
use Rattle.hall_sql.specs.declared.tables.TheConstants.{ANSWERS_ROWIDS, PROTESTS_ROWIDS, TESTERS_ROWIDS}
use Rattle.hall_sql.specs.Tables.{table_at}

-- the row's column equals the parameter, as SQL compares
abbrev pub equals : ℕ → ℕ → Term
equals place parameter = op2 (Compare Eq Binary) (col 1 place) (col 0 parameter)

-- it comes after the parameter, and it doesn't
abbrev pub above : ℕ → ℕ → Term
above place parameter = op2 (Compare Gt Binary) (col 1 place) (col 0 parameter)

-- the column is not above the parameter
abbrev pub up_to : ℕ → ℕ → Term
up_to place parameter = op2 (Compare Le Binary) (col 1 place) (col 0 parameter)

-- ascending by a column
abbrev pub rising : Key
rising = record { collation = Binary; descending = false }

-- the names of the table's columns
abbrev pub names_of : HallTable → List (List ℕ)
names_of table = map (λ (column : Column). column.name) (table_at table).columns

-- a query of one table, with no grouping and all its rows
abbrev pub plain_query : ℕ → List Term → List Term → List (Term × Key) → Query
plain_query tree filter project order = record {
  from = inner tree end;
  filter = filter;
  group = None;
  project = project;
  distinct = false;
  collations = [];
  order = order;
  limit = lit (Int (negsuc 0));
  offset = lit (Int (pos 0));
}

-- its first rows, so many at most
abbrev pub first_rows : ℕ → Query → Query
first_rows count q = record q { limit = lit (Int (pos count)) }

-- the rowids of a table, in order
abbrev pub rowids_text : HallTable → List ℕ
rowids_text People = PEOPLE_ROWIDS.now
rowids_text Puzzles = PUZZLES_ROWIDS.now
rowids_text Rounds = ROUNDS_ROWIDS.now
rowids_text Places = PLACES_ROWIDS.now
rowids_text Answers = ANSWERS_ROWIDS.now
rowids_text Protests = PROTESTS_ROWIDS.now
rowids_text Testers = TESTERS_ROWIDS.now
