-- Marks of cells.
use Rattle.std.specs.Prelude.{◌≡◌, ◌↔◌, ◌⊎◌, ℕ, ◌<◌, Bool, List, length, slice_index}
use Rattle.hall_grid.specs.declared.board.Clue.{Clue}
use Rattle.hall_grid.specs.declared.board.Clue.TheVariants.{Unknown, Number}
use Rattle.hall_grid.specs.Reached.{IsMarked}

-- so many marks, which say where the property holds
pub record MarksWhere (Holds : ℕ → Type 0) (n : ℕ) (marks : List Bool) : Type 0 where
  pub exact : length marks ≡ n
  pub marked : (cell : ℕ) → IsMarked marks cell ↔ Holds cell

-- the cell has the colour
abbrev pub IsColoured : List ℕ → ℕ → ℕ → Type 0
IsColoured f colour cell = (cell < length f) × (slice_index f cell ≡ colour)

-- a number, known or not
abbrev pub IsNumber : Clue → Type 0
IsNumber clue = ((n : ℕ) × (clue ≡ Number n)) ⊎ (clue ≡ Unknown)
