-- What following from dots, cells and colours makes of a board, and what is still to look at.
use Rattle.std.specs.Prelude.{◌≡◌, ◌≢◌, ℕ, ◌+◌, ◌*◌, List, Option, Some, None, Contains, length, slice_index_or}
use Rattle.std.specs.Prelude.{Result, IfOk, OnErr}
use Rattle.std.specs.Borrow.{GName}
use Rattle.hall_grid.specs.declared.board.Size.{Size}
use Rattle.hall_grid.specs.declared.board.Kind.TheVariants.{Slither}
use Rattle.hall_grid.specs.Board.{Board}
use Rattle.hall_solve.specs.Question.{Narrows, open_places}
use Rattle.hall_solve.specs.Deduction.{IsDeduced}
use Rattle.hall_solve.specs.Puzzle.{question_of}
use Rattle.hall_solve.specs.Trail.{Trailed, Grows}
use Rattle.hall_solve.specs.declared.deduce.Pass.{Pass}
use Rattle.hall_slither.specs.declared.count.Centre.{Centre}
use Rattle.hall_slither.specs.declared.position.Position.{Position}
use Rattle.hall_slither.specs.Count.{IsCentre}

-- the puzzle, and the names of the partial filling, the colours and the stack, whatever their values
abbrev pub names_of : Position → Board × (GName × (GName × GName))
names_of position =
    (position.puzzle.now, (position.partial.ghost_name, (position.colours.ghost_name, position.stack.ghost_name)))

-- the position is still of the same puzzle, partial filling, colours and stack
abbrev pub IsSamePosition : Position → Position → Type 0
IsSamePosition old new = names_of new ≡ names_of old

-- what following made of a board, whatever it answered
pub record IsFollowed {E : Type 0} (board : Board) (old new : Trailed) (r : Result Pass E) : Type 0 where
  pub deduced : IfOk r (IsDeduced (question_of Slither board) old.places new.places)
  pub err : OnErr r (Narrows (question_of Slither board) old.places new.places)
  pub grows : Grows old new

-- none of the sides is open
abbrev pub AreSet : List (Option ℕ) → List (Option ℕ) → Type 0
AreSet sides p = (s : ℕ) → Contains sides (Some s) → slice_index_or p s None ≢ None

-- all dots and cells of the board are there
abbrev pub HasAll : Size → List Centre → Type 0
HasAll size centres = (centre : Centre) → IsCentre size centre → Contains centres centre

-- a set side brings at most four dots and cells
abbrev pub work : List (Option ℕ) → List Centre → ℕ
work p centres = 5 * open_places p + length centres
