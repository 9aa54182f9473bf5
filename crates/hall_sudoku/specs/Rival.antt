-- Cells that stand in the way of each other.
use Rattle.std.specs.Prelude.{◌≡◌, ◌≢◌, ℕ, ◌<◌, List, Option, Some, None, length, slice_index_or}
use Rattle.hall_grid.specs.declared.board.Size.{Size}
use Rattle.hall_sudoku.specs.Units.{Share}

-- another cell of one of the cell's units has the same value
pub record HasRival (size : Size) (p : List (Option ℕ)) (cell : ℕ) : Type 0 where
  pub other : ℕ
  pub value : ℕ
  pub within : other < length p
  pub differs : other ≢ cell
  pub share : Share size cell other
  pub cell_has : slice_index_or p cell None ≡ Some value
  pub other_has : slice_index_or p other None ≡ Some value
