-- The parts into which the units of one sort divide those of another, as boxes a row.
use Rattle.std.specs.Prelude.{◌≡◌, ◌≢◌, ℕ, ◌+◌, ◌*◌, ◌<◌, List, Option, slice_index}
use Rattle.hall_grid.specs.declared.board.Size.{Size}
use Rattle.hall_grid.specs.Board.{cells, row, col}
use Rattle.hall_solve.specs.Question.{Solves}
use Rattle.hall_sudoku.specs.Values.{Has}
use Rattle.hall_sudoku.specs.Units.{units_question}

-- the number of the part in which the cell is: parts have numbers as cells have, the unit for the row and the other
-- unit for the column
abbrev pub part_of : Size → (ℕ → ℕ) → (ℕ → ℕ) → ℕ → ℕ
part_of size unit other cell = unit cell * size.cols + other cell

-- each part's set has what one of the first n cells may have there
abbrev pub AreGathered : Size → (ℕ → ℕ) → (ℕ → ℕ) → ℕ → List ℕ → List ℕ → Type 0
AreGathered size unit other n candidates parts = (cell v : ℕ) → cell < n → Has (slice_index candidates cell) v
    → Has (slice_index parts (part_of size unit other cell)) v

-- each part's set has only values that the unit may have in this part alone
abbrev pub AreConfined : Size → (ℕ → ℕ) → (ℕ → ℕ) → List ℕ → List ℕ → Type 0
AreConfined size unit other candidates confined =
    (part cell v : ℕ) → part < cells size → Has (slice_index confined part) v → cell < cells size
    → unit cell ≡ row size part → Has (slice_index candidates cell) v → other cell ≡ col size part

-- a unit in which the cell isn't may have the value only where the cell's other unit is
pub record IsElsewhere (size : Size) (unit other : ℕ → ℕ) (candidates : List ℕ) (cell value : ℕ) : Type 0 where
  pub at : ℕ
  pub small : at < size.cols
  pub differs : at ≢ unit cell
  pub confined : (c : ℕ) → c < cells size → unit c ≡ at → Has (slice_index candidates c) value → other c ≡ other cell

-- each cell's set has only values that are confined elsewhere
abbrev pub AreElsewhere : Size → (ℕ → ℕ) → (ℕ → ℕ) → List ℕ → List ℕ → Type 0
AreElsewhere size unit other candidates out = (cell v : ℕ) → cell < cells size → Has (slice_index out cell) v
    → IsElsewhere size unit other candidates cell v

-- each cell's set has only values that the cell has in no solution
abbrev pub AreOut : Size → List (Option ℕ) → List ℕ → Type 0
AreOut size p out = (cell v : ℕ) → cell < cells size → Has (slice_index out cell) v
    → (f : List ℕ) → Solves (units_question size) p f → slice_index f cell ≢ v
