-- The units of a board, and the question that they alone ask.
use Rattle.std.specs.Prelude.{◌≡◌, ◌⊎◌, ℕ, ◌<◌, List, length, slice_index}
use Rattle.hall_grid.specs.declared.board.Size.{Size}
use Rattle.hall_grid.specs.Board.{cells, row, col}
use Rattle.hall_grid.specs.Sudoku.{box, RepeatsInRow, RepeatsInColumn, RepeatsInBox}
use Rattle.hall_solve.specs.Question.{Question}
use Rattle.hall_sudoku.specs.declared.units.Room.{Room}
use Rattle.hall_sudoku.specs.declared.units.Room.TheVariants.{Nine, Sixteen, Most}

-- no unit holds a value twice
pub record RepeatsNothing (size : Size) (f : List ℕ) : Type 0 where
  pub rows : RepeatsInRow size f → ⊥
  pub columns : RepeatsInColumn size f → ⊥
  pub boxes : RepeatsInBox size f → ⊥

-- the question of the units alone, whatever the givens
abbrev pub units_question : Size → Question
units_question size = record { cells = cells size; values = size.cols; right = RepeatsNothing size }

-- the list has each cell's unit
pub record IsDivision (size : Size) (unit : ℕ → ℕ) (units : List ℕ) : Type 0 where
  pub exact : length units ≡ cells size
  pub units_are : (cell : ℕ) → cell < cells size → slice_index units cell ≡ unit cell

-- the cells have a unit in common
abbrev pub Share : Size → ℕ → ℕ → Type 0
Share size a b = (row size a ≡ row size b) ⊎ (col size a ≡ col size b) ⊎ (box size a ≡ box size b)

-- how many cells there is room for
abbrev pub room_of : Room → ℕ
room_of Nine = 81
room_of Sixteen = 256
room_of Most = 625
