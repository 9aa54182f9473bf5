-- What stands before the clues of a text, read once.
use Rattle.std.specs.Prelude.{◌≡◌, ℕ, List}
use Rattle.hall_grid.specs.declared.board.Size.{Size}
use Rattle.hall_grid.specs.declared.board.Kind.{Kind}
use Rattle.hall_grid.specs.Board.{HasSize}
use Rattle.hall_grid.specs.Text.{Heads, body_of}

-- the text names this kind and a size in its limits, and this body follows
pub record HasHead (text : List ℕ) (kind : Kind) (size : Size) (body : List ℕ) : Type 0 where
  pub start : List ℕ
  pub heads : Heads text start kind size
  pub limit : HasSize kind size
  pub follows : body ≡ body_of start
