-- What is told of rows that are no record, and of tables that take no more rows.
use Rattle.std.specs.Prelude.{ℕ, zero, suc, ℤ, ◌-◌, Bool, true, false, List, [], ◌++◌, length, take, codes, decimal}
use Rattle.std.specs.Fmt.{signed_decimal}
use Rattle.std.specs.List.{flat_map}
use Rattle.hall_sql.specs.declared.bad_rows.BadRows.{BadRows}
use Rattle.hall_sql.specs.declared.tables.HallTable.{HallTable}
use Rattle.hall_sql.specs.declared.tables.HallTable.TheVariants as table
use Rattle.hall_tool.specs.JudgeText.{on_own_line}

-- the table's name in the database
abbrev pub table_name : HallTable → List ℕ
table_name table.People = codes "people"
table_name table.Puzzles = codes "puzzles"
table_name table.Rounds = codes "rounds"
table_name table.Places = codes "round_puzzles"
table_name table.Answers = codes "answers"
table_name table.Protests = codes "protests"
table_name table.Testers = codes "testers"

-- the row of the table that has this rowid, on a line
abbrev pub row_line : HallTable → ℤ → List ℕ
row_line table id =
    codes "broken: a row is no record: " ++ table_name table ++ codes " rowid=" ++ on_own_line (signed_decimal id)

-- how many more rows there are, on a line, if any
abbrev pub rest_line : HallTable → ℕ → List ℕ
rest_line table zero = []
rest_line table (suc n) =
    codes "broken: and " ++ (decimal (suc n) ++ (codes " more rows are no record: " ++ on_own_line (table_name table)))

-- the row that has the greatest rowid that there is, so that none can be added, on a line, if there is one
abbrev pub full_line : HallTable → Bool → List ℕ
full_line table false = []
full_line table true =
    codes "broken: no row can be added after this one: " ++ table_name table
    ++ codes " rowid=9223372036854775807\n"

-- the first 20 rows of the table that are no record, and how many more there are
abbrev pub bad_lines : BadRows → List ℕ
bad_lines bad =
    flat_map (row_line bad.table) (take 20 bad.rowids.items) ++ rest_line bad.table (length bad.rowids.items - 20)

-- these, and the row after which none can be added
abbrev pub bad_table : BadRows → List ℕ
bad_table bad = bad_lines bad ++ full_line bad.table bad.is_full

-- so of each table
abbrev pub bad_text : List BadRows → List ℕ
bad_text bad = flat_map bad_table bad
