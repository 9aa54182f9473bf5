-- Two by two cells of wall.
use Rattle.std.proofs.Common.{◌≡◌, ℕ, ◌+◌, ◌*◌, ◌%◌, ◌<◌, List, sym, subst, arith}
use Rattle.std.proofs.lemmas.Nat.{div-add-mod', mod-mul-add}
use Rattle.hall_grid.specs.declared.board.Size.{Size}
use Rattle.hall_grid.specs.Board.{cells, row, col}
use Rattle.hall_grid.specs.Nurikabe.{IsWall, HasPool}
use Rattle.hall_nurikabe.specs.Block.{IsPoolAt}

wall_at : (size : Size) (f : List ℕ) (a b : ℕ) → a ≡ b → IsWall size f a → IsWall size f b
wall_at size f a b e w = subst (IsWall size f) e w

pub HasPool-from_at : (size : Size) (f : List ℕ) (cell : ℕ) → IsPoolAt size f cell → HasPool size f
HasPool-from_at size f cell (inner, a, b, c, d) =
    let e : row size cell * size.cols + col size cell ≡ cell = div-add-mod' cell size.cols in (
      row size cell,
      col size cell,
      inner,
      wall_at size f cell (row size cell * size.cols + col size cell) (sym e) a,
      wall_at size f (cell + 1) (row size cell * size.cols + col size cell + 1) (omega arith) b,
      wall_at size f (cell + size.cols) ((row size cell + 1) * size.cols + col size cell) (omega arith) c,
      wall_at size f (cell + size.cols + 1) ((row size cell + 1) * size.cols + col size cell + 1) (omega arith) d,
    )

pub HasPool-at : (size : Size) (f : List ℕ) → HasPool size f → (cell : ℕ) × (cell < cells size) × IsPoolAt size f cell
HasPool-at size f (r, c, inner, a, b, d, e) =
    let same : (r * size.cols + c) % size.cols ≡ c = mod-mul-add r size.cols c (omega arith) in (
      r * size.cols + c,
      a.0,
      (
        omega arith,
        a,
        b,
        wall_at size f ((r + 1) * size.cols + c) (r * size.cols + c + size.cols) (omega arith) d,
        wall_at size f ((r + 1) * size.cols + c + 1) (r * size.cols + c + size.cols + 1) (omega arith) e,
      ),
    )
