-- The question of a puzzle against that of its units alone.
use Rattle.std.proofs.Common.{◌≡◌, ℕ, List, Option, sym, subst}
use Rattle.hall_grid.specs.declared.board.Kind.TheVariants.{Sudoku}
use Rattle.hall_grid.specs.declared.rule.Rule.{Rule}
use Rattle.hall_grid.specs.declared.rule.Rule.TheVariants.{U1, U2, U3}
use Rattle.hall_grid.specs.Board.{Board}
use Rattle.hall_grid.specs.Answer.{Breaks}
use Rattle.hall_solve.specs.Question.{IsPartial, Solves, IsHopeless, Narrows}
use Rattle.hall_solve.specs.Puzzle.{question_of, IsRight}
use Rattle.hall_sudoku.specs.Units.{units_question, RepeatsNothing}

-- a filling that breaks no rule of a Sudoku breaks this one
pub breaks_not : (board : Board) (f : List ℕ) (rule : Rule) → board.kind ≡ Sudoku → IsRight board f
    → Breaks Sudoku board f rule → ⊥
breaks_not board f rule e right h = right rule (subst (λ k. Breaks k board f rule) (sym e) h)

pub repeats_nothing : (board : Board) (f : List ℕ) → board.kind ≡ Sudoku → IsRight board f → RepeatsNothing board.size f
repeats_nothing board f e right = record {
  rows = λ h. breaks_not board f U1 e right h;
  columns = λ h. breaks_not board f U2 e right h;
  boxes = λ h. breaks_not board f U3 e right h;
}

-- a solution of the puzzle solves its units
pub solves_units : (board : Board) (p : List (Option ℕ)) (f : List ℕ) → board.kind ≡ Sudoku
    → Solves (question_of Sudoku board) p f → Solves (units_question board.size) p f
solves_units board p f e s = record {
  filling = record { size = s.filling.size; in_range = s.filling.in_range };
  extends = s.extends;
  right = repeats_nothing board f e s.right;
}

pub partial_of : (board : Board) (p : List (Option ℕ)) → IsPartial (question_of Sudoku board) p
    → IsPartial (units_question board.size) p
partial_of board p h = record { size = h.size; in_range = h.in_range }

pub narrows_of : (board : Board) (old new : List (Option ℕ)) → board.kind ≡ Sudoku
    → Narrows (units_question board.size) old new → Narrows (question_of Sudoku board) old new
narrows_of board old new e n = record {
  partial = record { size = n.partial.size; in_range = n.partial.in_range };
  keeps = n.keeps;
  solutions = λ f s. record {
    filling = s.filling;
    extends = (n.solutions f (solves_units board old f e s)).extends;
    right = s.right;
  };
}

pub hopeless_of : (board : Board) (p : List (Option ℕ)) → board.kind ≡ Sudoku → IsHopeless (units_question board.size) p
    → IsHopeless (question_of Sudoku board) p
hopeless_of board p e h = λ f s. h f (solves_units board p f e s)
