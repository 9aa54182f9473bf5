-- The cells beside a cell.
use Rattle.std.specs.Prelude.{◌≡◌, ◌↔◌, ℕ, ◌+◌, ◌<◌, Option, Some}
use Rattle.hall_grid.specs.declared.board.Size.{Size}
use Rattle.hall_grid.specs.Board.{cells, row, col}

-- the other cell is the one straight above
abbrev pub IsAbove : Size → ℕ → ℕ → Type 0
IsAbove size cell other = (other < cells size) × (row size other + 1 ≡ row size cell) × (col size other ≡ col size cell)

-- the other cell is the next to the left
abbrev pub IsNextLeft : Size → ℕ → ℕ → Type 0
IsNextLeft size cell other =
    (other < cells size) × (row size other ≡ row size cell) × (col size other + 1 ≡ col size cell)

-- the other cell is the next to the right
abbrev pub IsNextRight : Size → ℕ → ℕ → Type 0
IsNextRight size cell other =
    (other < cells size) × (row size other ≡ row size cell) × (col size other ≡ col size cell + 1)

-- the other cell is the one straight below
abbrev pub IsBelow : Size → ℕ → ℕ → Type 0
IsBelow size cell other = (other < cells size) × (row size other ≡ row size cell + 1) × (col size other ≡ col size cell)

-- the option holds the one number with the property, or nothing where there is none
abbrev pub Holds : Option ℕ → (ℕ → Type 0) → Type 0
Holds place IsSought = (x : ℕ) → (place ≡ Some x) ↔ IsSought x
