-- Values as they are written, a byte for each.
use Rattle.std.specs.Prelude.{◌≡◌, ℕ, ◌<◌, List, map, All}
use Rattle.hall_grid.specs.declared.board.Size.{Size}
use Rattle.hall_grid.specs.declared.board.Kind.{Kind}
use Rattle.hall_grid.specs.declared.board.Kind.TheVariants.{Sudoku, Slither, Nurikabe}
use Rattle.hall_grid.specs.Answer.{values_of, value_byte}

-- the bytes stand for these values, one each
pub record SpellsValues (kind : Kind) (size : Size) (bytes values : List ℕ) : Type 0 where
  pub ranges : All (λ v. v < values_of kind size) values
  pub written : bytes ≡ map (value_byte kind) values

-- the kinds whose answers have one byte for each cell and no more
abbrev pub HasCellText : Kind → Type 0
HasCellText Sudoku = Unit {0}
HasCellText Slither = ⊥
HasCellText Nurikabe = Unit {0}
