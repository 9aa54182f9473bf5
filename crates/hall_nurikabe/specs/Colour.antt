-- The cells of one colour.
use Rattle.std.specs.Prelude.{◌≡◌, ℕ, ◌<◌, List, slice_index}
use Rattle.hall_grid.specs.declared.board.Size.{Size}
use Rattle.hall_grid.specs.Board.{cells}

-- the cell has the colour: 0 is white and 1 is wall
abbrev pub HasColour : Size → List ℕ → ℕ → ℕ → Type 0
HasColour size f colour cell = (cell < cells size) × (slice_index f cell ≡ colour)
