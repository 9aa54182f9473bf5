-- What a search of a puzzle found.
use Rattle.std.specs.Prelude.{◌≤◌, ℕ}
use Rattle.hall_grid.specs.Board.{Board}
use Rattle.hall_solve.specs.declared.searched.Searched.{Searched}
use Rattle.hall_solve.specs.Question.{plain_tree, open_places}
use Rattle.hall_solve.specs.Answer.{fewest_visits}
use Rattle.hall_solve.specs.Puzzle.{OutcomeOfPuzzle, question_of, start_of}
use Rattle.hall_solve.specs.Searched.{visits_made, outcome_of, visits_of, IsSpent}

-- a puzzle, a budget, and what was found
pub record FindingView : Type 0 where
  pub puzzle : Board
  pub budget : ℕ
  pub searched : Searched

-- what `certify` promises of what it answers
pub record IsFoundBy (puzzle : Board) (budget : ℕ) (searched : Searched) : Type 0 where
  pub outcome : OutcomeOfPuzzle puzzle budget (outcome_of searched)
  pub spent : IsSpent budget searched
  pub took : fewest_visits (outcome_of searched) ≤ visits_made (visits_of searched)
  pub frugal : visits_made (visits_of searched)
      ≤ plain_tree (question_of puzzle.kind puzzle).values (open_places (start_of puzzle.kind puzzle))
