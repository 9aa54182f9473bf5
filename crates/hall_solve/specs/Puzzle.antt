-- What a search is asked about a puzzle, for all three kinds.
use Rattle.std.specs.Prelude.{◌-◌, ℕ, List, Option, Some, None, map, replicate}
use Rattle.hall_grid.specs.declared.board.Kind.{Kind}
use Rattle.hall_grid.specs.declared.board.Kind.TheVariants.{Sudoku, Slither, Nurikabe}
use Rattle.hall_grid.specs.declared.board.Clue.{Clue}
use Rattle.hall_grid.specs.declared.board.Clue.TheVariants.{Blank, Unknown, Number}
use Rattle.hall_grid.specs.declared.rule.Rule.{Rule}
use Rattle.hall_grid.specs.Board.{Board}
use Rattle.hall_grid.specs.Slither.{all_sides}
use Rattle.hall_grid.specs.Answer.{IsBroken, places_of, values_of}
use Rattle.hall_solve.specs.declared.outcome.Outcome.{Outcome}
use Rattle.hall_solve.specs.Question.{Question, IsQuestionFilling, Extends}
use Rattle.hall_solve.specs.Answer.{OutcomeOf}

-- no rule is broken
abbrev pub IsRight : Board → List ℕ → Type 0
IsRight board f = (rule : Rule) → IsBroken board f rule → ⊥

-- a value for each place of a board of the kind, and no rule broken
abbrev pub question_of : Kind → Board → Question
question_of kind board =
    record { cells = places_of kind board.size; values = values_of kind board.size; right = IsRight board }

-- the value that a clue fixes in its cell: a given of Sudoku, and white under a clue of Nurikabe
abbrev pub given_of : Kind → Clue → Option ℕ
given_of Sudoku Blank = None
given_of Sudoku Unknown = None
given_of Sudoku (Number n) = Some (n - 1)
given_of Slither clue = None
given_of Nurikabe Blank = None
given_of Nurikabe Unknown = Some 0
given_of Nurikabe (Number n) = Some 0

-- where a search begins: the givens, and nothing else; in Slitherlink no side is given
abbrev pub start_of : Kind → Board → List (Option ℕ)
start_of Sudoku board = map (given_of Sudoku) board.clues
start_of Slither board = replicate (all_sides board.size) None
start_of Nurikabe board = map (given_of Nurikabe) board.clues

-- what a search of the puzzle may answer within the budget
abbrev pub OutcomeOfPuzzle : Board → ℕ → Outcome → Type 0
OutcomeOfPuzzle board budget o = OutcomeOf (question_of board.kind board) (start_of board.kind board) budget o

-- every filling that breaks no rule has what is set
abbrev pub AllExtend : Kind → Board → List (Option ℕ) → Type 0
AllExtend kind board p = (f : List ℕ) → IsQuestionFilling (question_of kind board) f → IsRight board f → Extends f p

-- what a search sees of a puzzle: its board, and how often it was visited and asked
pub record SearchView : Type 0 where
  pub board : Board
  pub visits : ℕ
  pub asked : ℕ

-- a board of which no filling was visited, and about which no rule was asked yet
abbrev pub begun : Board → SearchView
begun board = record { board = board; visits = 0; asked = 0 }
