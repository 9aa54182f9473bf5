-- Where no deduction is left: no value stands twice in a unit, an open cell has two values to choose from,
-- and a value that stands nowhere in a unit two cells there.
use Rattle.std.specs.Prelude.{◌≡◌, ◌≢◌, ℕ, ◌<◌, List, Option, Some, None, length, slice_index_or}
use Rattle.hall_grid.specs.declared.board.Size.{Size}
use Rattle.hall_grid.specs.Board.{row, col}
use Rattle.hall_grid.specs.Sudoku.{box}
use Rattle.hall_solve.specs.Question.{IsOpen}

-- a cell of the unit has the value
pub record StandsIn (unit : ℕ → ℕ) (p : List (Option ℕ)) (at value : ℕ) : Type 0 where
  pub cell : ℕ
  pub within : cell < length p
  pub unit_is : unit cell ≡ at
  pub value_is : slice_index_or p cell None ≡ Some value

-- two cells of one unit have the same value
pub record Clashes (unit : ℕ → ℕ) (p : List (Option ℕ)) : Type 0 where
  pub cell : ℕ
  pub value : ℕ
  pub within : cell < length p
  pub value_is : slice_index_or p cell None ≡ Some value
  pub other : StandsIn unit p (unit cell) value
  pub before : other.cell < cell

-- no value stands in two cells of a row, a column or a box
pub record HaveNoClash (size : Size) (p : List (Option ℕ)) : Type 0 where
  pub rows : Clashes (row size) p → ⊥
  pub columns : Clashes (col size) p → ⊥
  pub boxes : Clashes (box size) p → ⊥

-- the cell is open, and the value stands in none of its units
pub record MayTake (size : Size) (p : List (Option ℕ)) (cell value : ℕ) : Type 0 where
  pub unset : IsOpen p cell
  pub in_range : value < size.cols
  pub row : StandsIn (row size) p (row size cell) value → ⊥
  pub column : StandsIn (col size) p (col size cell) value → ⊥
  pub box : StandsIn (box size) p (box size cell) value → ⊥

-- the cell may take either of two values
pub record HasTwoValues (size : Size) (p : List (Option ℕ)) (cell : ℕ) : Type 0 where
  pub first : ℕ
  pub second : ℕ
  pub differ : first ≢ second
  pub may_first : MayTake size p cell first
  pub may_second : MayTake size p cell second

-- either of two cells of the unit may take the value
pub record HasTwoCells (size : Size) (unit : ℕ → ℕ) (p : List (Option ℕ)) (at value : ℕ) : Type 0 where
  pub first : ℕ
  pub second : ℕ
  pub differ : first ≢ second
  pub in_first : unit first ≡ at
  pub in_second : unit second ≡ at
  pub may_first : MayTake size p first value
  pub may_second : MayTake size p second value

-- a value that stands nowhere in a unit has two cells there
abbrev pub HaveTwoCells : Size → (ℕ → ℕ) → List (Option ℕ) → Type 0
HaveTwoCells size unit p = (at value : ℕ) → at < size.cols → value < size.cols → (StandsIn unit p at value → ⊥)
    → HasTwoCells size unit p at value

-- no value stands twice in a unit, no cell has one value left only, and no value one cell of a unit
pub record IsBoardSettled (size : Size) (p : List (Option ℕ)) : Type 0 where
  pub apart : HaveNoClash size p
  pub cells : (cell : ℕ) → IsOpen p cell → HasTwoValues size p cell
  pub rows : HaveTwoCells size (row size) p
  pub columns : HaveTwoCells size (col size) p
  pub boxes : HaveTwoCells size (box size) p
