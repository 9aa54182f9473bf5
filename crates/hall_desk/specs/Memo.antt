-- What a search found before its request came to be planned.
use Rattle.std.specs.Prelude.{◌≡◌, ℕ, Option, Some, None}
use Rattle.hall_grid.specs.Board.{Board}
use Rattle.hall_policy.specs.declared.record.PuzzleState.{PuzzleState}
use Rattle.hall_solve.specs.declared.searched.Visits.{Visits}
use Rattle.hall_desk.specs.Step.{IsFound}
use Rattle.hall_desk.specs.Plans.{HasSpent}
use Rattle.hall_desk.specs.Shown.{state_name}
use Rattle.hall_desk.specs.declared.found_state.FoundState.{FoundState}
use Rattle.hall_desk.specs.declared.reply.Reply.TheVariants as reply

-- a puzzle, a budget, a state, and the visits of the search that found it
pub record MemoView : Type 0 where
  pub puzzle : Board
  pub budget : ℕ
  pub state : PuzzleState
  pub visits : Visits

-- a search of the puzzle within the budget may find the state, and these are its visits
pub record IsMemo (puzzle : Board) (budget : ℕ) (state : PuzzleState) (visits : Visits) : Type 0 where
  pub found : IsFound puzzle budget state
  pub spent : HasSpent budget (reply.Certify (state_name state)) visits

-- what is remembered is of a search of this puzzle within this budget
pub record Remembers (memo : Option MemoView) (puzzle : Board) (budget : ℕ) : Type 0 where
  pub found : MemoView
  pub is : memo ≡ Some found
  pub same : found.puzzle ≡ puzzle
  pub within : found.budget ≡ budget

-- where something was found, it is what a search of this puzzle within this budget may find
abbrev pub HasFound : Board → ℕ → Option FoundState → Type 0
HasFound puzzle budget (Some found) = IsMemo puzzle budget found.state found.visits
HasFound puzzle budget None = Unit {0}
