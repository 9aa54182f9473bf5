-- Two by two cells.
use Rattle.std.specs.Prelude.{◌≡◌, ℕ, ◌+◌, ◌<◌, List, slice_index}
use Rattle.hall_grid.specs.declared.board.Size.{Size}
use Rattle.hall_grid.specs.Board.{cells, col}
use Rattle.hall_grid.specs.Nurikabe.{IsWall, HasPool}

-- two by two cells are wall, of which this one is the upper left one
abbrev pub IsPoolAt : Size → List ℕ → ℕ → Type 0
IsPoolAt size f cell =
    (col size cell + 1 < size.cols)
    × IsWall size f cell × IsWall size f (cell + 1)
    × IsWall size f (cell + size.cols) × IsWall size f (cell + size.cols + 1)

-- cells of the board which, where they are all wall, are a pool
pub record MakePool (size : Size) (a b c d : ℕ) : Type 0 where
  pub a_within : a < cells size
  pub b_within : b < cells size
  pub c_within : c < cells size
  pub d_within : d < cells size
  pub pool : (f : List ℕ) → slice_index f a ≡ 1 → slice_index f b ≡ 1 → slice_index f c ≡ 1 → slice_index f d ≡ 1
      → HasPool size f
