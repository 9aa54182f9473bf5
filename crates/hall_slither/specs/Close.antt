-- What is known of the chains of a puzzle, and the sides that would close one.
use Rattle.std.specs.Prelude.{◌≡◌, ◌↔◌, ◌⊎◌, ℕ, Bool, IsTrue, List, Option, Some, None}
use Rattle.std.specs.Prelude.{length, slice_index, slice_index_or, slice_set}
use Rattle.hall_grid.specs.declared.board.Kind.TheVariants.{Slither}
use Rattle.hall_grid.specs.Board.{Board, IsBoard}
use Rattle.hall_grid.specs.Slither.{all_sides, dots, ends, HasOtherCount}
use Rattle.hall_grid.specs.Component.{IsLabelled, LabelsDiffer}
use Rattle.hall_solve.specs.Question.{Question}
use Rattle.hall_slither.specs.declared.chain.Ends.{Ends}
use Rattle.hall_slither.specs.declared.chain.Ends.TheVariants.{Closed, Two}
use Rattle.hall_slither.specs.Chain.{AreChains, HaveEnds}
use Rattle.hall_solve.specs.Puzzle.{IsRight}

-- a puzzle, its lines so far, a label for each line's chain, the ends of each chain, whether there are several,
-- and whether one is a loop
pub record Layout : Type 0 where
  pub board : Board
  pub lines : List ℕ
  pub labels : List (Option ℕ)
  pub ends : List Ends
  pub apart : Bool
  pub closed : Bool

-- the layout of these parts
abbrev pub layout_of : Board → List ℕ → List (Option ℕ) → List Ends → Bool → Bool → Layout
layout_of board lines labels ends apart closed =
    record { board = board; lines = lines; labels = labels; ends = ends; apart = apart; closed = closed }

-- the chain with this label is a loop
abbrev pub IsClosed : List (Option ℕ) → List Ends → ℕ → Type 0
IsClosed labels ends label = IsLabelled labels label label × (slice_index_or ends label Closed ≡ Closed)

-- a chain is a loop
abbrev pub HasLoop : List (Option ℕ) → List Ends → Type 0
HasLoop labels ends = (label : ℕ) × IsClosed labels ends label

pub record IsLayout (layout : Layout) : Type 0 where
  pub kind : layout.board.kind ≡ Slither
  pub board : IsBoard layout.board
  pub exact : length layout.lines ≡ all_sides layout.board.size
  pub components : AreChains layout.board.size layout.lines layout.labels
  pub ends : HaveEnds layout.board.size layout.lines layout.labels (dots layout.board.size) layout.ends
  pub apart : IsTrue layout.apart ↔ LabelsDiffer layout.labels
  pub closed : IsTrue layout.closed ↔ HasLoop layout.labels layout.ends

-- a loop beside another chain, or with a number that differs from the count of lines
abbrev pub HasWrongLoop : Layout → Type 0
HasWrongLoop layout = HasLoop layout.labels layout.ends
    × (LabelsDiffer layout.labels ⊎ HasOtherCount layout.board layout.lines)

-- the lines, with one more where it is given
abbrev pub with_line : List ℕ → Option ℕ → List ℕ
with_line lines None = lines
with_line lines (Some side) = slice_set lines side 1

-- the filling has the lines
abbrev pub HasLines : List ℕ → List ℕ → Type 0
HasLines lines f = (s : ℕ) → slice_index lines s ≡ 1 → slice_index f s ≡ 1

-- the question with the lines given
abbrev pub layout_question : Layout → Question
layout_question layout =
    record {
      cells = all_sides layout.board.size;
      values = 2;
      right = λ f. IsRight layout.board f × HasLines layout.lines f;
    }

-- the side joins the two ends of one chain
abbrev pub Closes : Layout → ℕ → Type 0
Closes layout side = (label : ℕ)
    × ((slice_index_or layout.ends label Closed ≡ Two (ends layout.board.size side).0 (ends layout.board.size side).1)
    ⊎ (slice_index_or layout.ends label Closed ≡ Two (ends layout.board.size side).1 (ends layout.board.size side).0))
