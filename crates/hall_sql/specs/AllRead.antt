-- Tables of which each row is a record.
use Rattle.std.specs.Prelude.{◌==◌, ℕ, Bool, IsTrue, is_some, if◌then◌else◌}
use Rattle.std.specs.List.{AllByRecursion, list_all}
use Rattle.sqlite.specs.Effect.{Database}
use Rattle.sqlite.specs.Order.{Row}
use Rattle.sqlite.specs.Schema.{Schema}
use Rattle.sqlite.specs.Tree.{Trees}
use Rattle.hall_sql.specs.Rows.{person_of_row, puzzle_of_row, round_of_row, place_of_row, answer_of_row, protest_of_row}
use Rattle.hall_sql.specs.Rows.{tester_of_row}
use Rattle.hall_sql.specs.Tables.{hall_schema}

-- the row of the table in this tree is a record
abbrev pub is_record : ℕ → Row → Bool
is_record tree row =
    if tree == 0 then is_some (person_of_row row)
    else if tree == 3 then is_some (puzzle_of_row row)
    else if tree == 5 then is_some (round_of_row row)
    else if tree == 7 then is_some (place_of_row row)
    else if tree == 9 then is_some (answer_of_row row)
    else if tree == 12 then is_some (protest_of_row row)
    else is_some (tester_of_row row)

-- each row of the table in this tree is a record
abbrev pub IsRead : Trees → ℕ → Type 0
IsRead trees tree = AllByRecursion (λ row. IsTrue (is_record tree row)) (trees tree)

-- each row of each table of the schema is a record
abbrev pub AreAllRead : Schema → Trees → Type 0
AreAllRead schema trees = AllByRecursion (λ table. IsRead trees table.tree) schema.tables

-- so it is, as a test
abbrev pub are_all_read : Schema → Trees → Bool
are_all_read schema trees = list_all (λ table. list_all (is_record table.tree) (trees table.tree)) schema.tables

-- where each row of the hall's tables was a record, each is one still
abbrev pub StaysRead : Database → Database → Type 0
StaysRead old new = AreAllRead hall_schema old.trees → AreAllRead hall_schema new.trees
