-- The text that stands for a puzzle: the one that the writer gives to it.
use Rattle.std.specs.Prelude.{◌≡◌, ℕ, List, [], ◌∷◌, Some}
use Rattle.std.specs.FinMap.{get}
use Rattle.std.specs.List.{AllByRecursion, filter}
use Rattle.sqlite.specs.declared.types.Value.{Value}
use Rattle.sqlite.specs.Effect.{Database}
use Rattle.sqlite.specs.Order.{Row}
use Rattle.sqlite.specs.Tree.{Trees}
use Rattle.hall_grid.specs.Canonical.{CanonicalText}
use Rattle.hall_policy.specs.declared.record.PuzzleKey.{PuzzleKey}
use Rattle.hall_policy.specs.declared.record.PuzzleRow.{PuzzleRow}
use Rattle.hall_policy.specs.declared.record.PuzzleState.{PuzzleState}
use Rattle.hall_sql.specs.Columns.{puzzle_params, stands_under}
use Rattle.hall_sql.specs.Rows.{world_of}

-- one row stands under the puzzle's key, and it has the puzzle's columns, with its canonical text
pub record HasPuzzleRow (row : PuzzleRow) (held : Database) : Type 0 where
  pub text : List ℕ
  pub canonical : CanonicalText text row.puzzle
  pub rowid : Value
  pub alone : filter (stands_under row.key) (held.trees 3) ≡ (rowid ∷ puzzle_params text row) ∷ []

-- the puzzle that stood under the key has its row in this state, if one stood there
abbrev pub HasPuzzleState : PuzzleKey → PuzzleState → Database → Database → Type 0
HasPuzzleState key known before held =
    (row : PuzzleRow) → get (world_of before.trees).puzzles key ≡ Some row →
    HasPuzzleRow (record row { state = known }) held

-- the row has a puzzle's columns, with its canonical text
pub record IsCanonicalRow (shown : Row) : Type 0 where
  pub row : PuzzleRow
  pub text : List ℕ
  pub canonical : CanonicalText text row.puzzle
  pub rowid : Value
  pub is : shown ≡ rowid ∷ puzzle_params text row

-- each row of the table of puzzles has a puzzle's columns, with its canonical text
abbrev pub AreCanonical : Trees → Type 0
AreCanonical trees = AllByRecursion IsCanonicalRow (trees 3)
