-- The one text that the writer gives to a puzzle.
use Rattle.std.specs.Prelude.{◌≡◌, ◌≢◌, ◌⊎◌, ℕ, ◌+◌, ◌≤◌, List, [], ◌∷◌, ◌++◌, length, slice_get, Some, decimal}
use Rattle.hall_grid.specs.declared.board.Size.{Size}
use Rattle.hall_grid.specs.declared.board.Kind.{Kind}
use Rattle.hall_grid.specs.declared.board.Kind.TheVariants.{Sudoku, Slither, Nurikabe}
use Rattle.hall_grid.specs.declared.board.Clue.{Clue}
use Rattle.hall_grid.specs.declared.board.Clue.TheVariants.{Blank, Unknown, Number}
use Rattle.hall_grid.specs.Board.{Board, cells}
use Rattle.hall_grid.specs.Body.{Form, Piece, IsChain, bytes_of, clues_of, fitted}
use Rattle.hall_grid.specs.Text.{word_of}

-- the cell exists and is empty
abbrev pub IsEmpty : List Clue → ℕ → Type 0
IsEmpty clues cell = slice_get clues cell ≡ Some Blank

-- the cell exists and isn't empty
abbrev pub IsFull : List Clue → ℕ → Type 0
IsFull clues cell = (clue : Clue) × (clue ≢ Blank) × (slice_get clues cell ≡ Some clue)

-- so many empty cells stand from the cell on, and no more, or 20 of them
pub record IsLongestRun (clues : List Clue) (cell count : ℕ) : Type 0 where
  pub within : cell + count ≤ length clues
  pub stops : (count ≡ 20) ⊎ (IsEmpty clues (cell + count) → ⊥)

-- how many empty cells a number of Slitherlink takes with it, by the two cells after it
abbrev pub Takes : List Clue → ℕ → ℕ → Type 0
Takes clues cell count =
    (IsFull clues (cell + 1) × (count ≡ 0))
    ⊎ ((IsFull clues (cell + 1) → ⊥) × IsFull clues (cell + 2) × (count ≡ 1))
    ⊎ ((IsFull clues (cell + 1) → ⊥) × (IsFull clues (cell + 2) → ⊥) × (count ≡ 2))

-- the clues of the form that the writer chooses at a cell
abbrev pub IsChosen : Kind → List Clue → ℕ → List Clue → Type 0
IsChosen kind clues cell [] = ⊥
IsChosen kind clues cell (Blank ∷ blanks) = IsLongestRun clues cell (length blanks + 1)
IsChosen kind clues cell (Unknown ∷ blanks) = Unit {0}
IsChosen Sudoku clues cell (Number n ∷ blanks) = Unit {0}
IsChosen Slither clues cell (Number n ∷ blanks) = Takes clues cell (length blanks)
IsChosen Nurikabe clues cell (Number n ∷ blanks) = Unit {0}

-- no form of fewer bytes gives the same clues
abbrev pub IsShortest : Kind → Piece → Type 0
IsShortest kind piece = (bytes : List ℕ) → Form kind bytes piece.clues → length piece.bytes ≤ length bytes

-- the forms, from a cell on, are those that the writer chooses
abbrev pub AreChosen : Kind → List Clue → ℕ → List Piece → Type 0
AreChosen kind clues cell [] = Unit {0}
AreChosen kind clues cell (piece ∷ pieces) =
    IsChosen kind clues cell piece.clues × IsShortest kind piece
    × AreChosen kind clues (cell + length piece.clues) pieces

-- the body spells the clues in the forms that the writer chooses, which cover every cell
pub record Canonical (kind : Kind) (size : Size) (body : List ℕ) (clues : List Clue) : Type 0 where
  pub pieces : List Piece
  pub chain : IsChain kind size 0 pieces
  pub whole : body ≡ bytes_of pieces
  pub gives : clues ≡ fitted (cells size) (clues_of pieces)
  pub covers : cells size ≤ length (clues_of pieces)
  pub chosen : AreChosen kind clues 0 pieces

-- what stands before the body: the kind word and the sides, without leading zeros, each with a slash after it
abbrev pub head_of : Kind → Size → List ℕ
head_of kind size = word_of kind ++ (47 ∷ (decimal size.cols ++ (47 ∷ (decimal size.rows ++ (47 ∷ [])))))

-- the canonical text of the puzzle
pub record CanonicalText (text : List ℕ) (board : Board) : Type 0 where
  pub body : List ℕ
  pub canonical : Canonical board.kind board.size body board.clues
  pub whole : text ≡ head_of board.kind board.size ++ body
