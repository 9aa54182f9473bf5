-- What the statements on puzzles say of the world.
use Rattle.std.proofs.Common.{◌≡◌, ◌≤◌, List, length, map, slice_get, Some}
use Rattle.std.specs.Ordering.{eq_by_cmp}
use Rattle.std.specs.FinMap.{get}
use Rattle.sqlite.specs.declared.types.Value.TheVariants.{Text}
use Rattle.sqlite.specs.Order.{Row}
use Rattle.sqlite_value.specs.Order.{column}
use Rattle.sqlite.specs.State.{State, Shown}
use Rattle.hall_policy.specs.Text.{is_word_byte}
use Rattle.hall_policy.specs.World.{puzzle_cmp}
use Rattle.hall_policy.proofs.Orders.{puzzle_total, same_puzzle_keys}
use Rattle.hall_policy.specs.declared.record.PuzzleKey.{PuzzleKey}
use Rattle.hall_policy.specs.declared.record.PuzzleRow.{PuzzleRow}
use Rattle.hall_sql.specs.Tables.{IsHallSchema}
use Rattle.hall_sql.proofs.Wordings.{worded}
use Rattle.hall_sql.specs.declared.puzzles.TheConstants.{PUZZLE}
use Rattle.hall_sql.specs.Values.{name_in, puzzle_in, state_in}
use Rattle.hall_sql.specs.Rows.{puzzle_row_in, puzzle_of_row, world_of}
use Rattle.hall_sql.proofs.PuzzleTexts.{puzzle, puzzle_is}
use Rattle.hall_sql.proofs.Queries.{passes}
use Rattle.hall_sql.proofs.ColumnLemmas.{kind_column, column_equals, last_equal, more_equal}
use Rattle.hall_sql.proofs.FoundLemmas.{asked_found}
use Rattle.hall_sql.proofs.RecordParts.{puzzle_parts_of}

pub key_columns : (r : Row) (row : PuzzleRow) → puzzle_of_row r ≡ Some row
    → (column r 1 ≡ Text row.key.author) × (column r 2 ≡ Text row.key.label)
key_columns r row is =
    let parts = puzzle_parts_of (name_in (column r 1)) (name_in (column r 2)) (puzzle_in (column r 3))
    (state_in (column r 4) (column r 5)) row is in (
      kind_column 1 24 is_word_byte (column r 1) row.key.author parts.author,
      kind_column 1 24 is_word_byte (column r 2)
          row.key.label parts.label,
    )

-- WHERE author = ?1 AND label = ?2 asks for the key
agrees : (key : PuzzleKey) (r : Row) (row : PuzzleRow) → puzzle_of_row r ≡ Some row
    → passes (puzzle key) r ≡ eq_by_cmp puzzle_cmp row.key key
agrees key r row is =
    let columns = key_columns r row is in
    more_equal _ _ _ _ (column_equals (column r 1) row.key.author key.author columns.0)
    (last_equal _ _ (column_equals (column r 2) row.key.label key.label columns.1))

pub puzzle_found : (key : PuzzleKey) (old new : State) (rows : List Row) (out : List PuzzleRow)
    → IsHallSchema old.now.schema
    → Shown PUZZLE.now (puzzle key).params old new rows → map puzzle_row_in rows ≡ map Some out → length out ≤ 1
    → slice_get out 0 ≡ get (world_of old.now.trees).puzzles key
puzzle_found key old new rows out has =
    let (u, words) = worded old.now.schema has in
    asked_found puzzle_total same_puzzle_keys (puzzle_is key u) (λ (row : PuzzleRow). row.key) key (agrees key) old new
    rows out words
