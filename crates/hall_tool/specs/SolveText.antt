-- What the command solve writes for an input and a budget, and its exit status.
use Rattle.std.specs.Prelude.{◌≡◌, ◌⊎◌, ℕ, List, ◌++◌, codes, Result}
use Rattle.hall_grid.specs.Device.{Tally}
use Rattle.hall_grid.specs.Board.{Board}
use Rattle.hall_grid.specs.Text.{SpellsText}
use Rattle.hall_grid.specs.Answer.{text_of}
use Rattle.hall_solve.specs.declared.outcome.Outcome.{Outcome}
use Rattle.hall_solve.specs.declared.outcome.Outcome.TheVariants.{None, One, More, GaveUp}
use Rattle.hall_solve.specs.Puzzle.{OutcomeOfPuzzle}
use Rattle.hall_tool.specs.Input.{HasOneLine, LacksOneLine}
use Rattle.hall_tool.specs.JudgeText.{on_own_line, refusal_of, IsTextRefused}
use Rattle.hall_tool.specs.LineRun.{IsLineRun}
use Rattle.hall_tool.specs.Machine.{Streams}
use Rattle.hall_tool.specs.declared.fault.ToolFault.{ToolFault}

-- an outcome as it is written
abbrev pub outcome_text : Board → Outcome → List ℕ
outcome_text board None = codes "none"
outcome_text board (One f) = codes "one " ++ text_of board.kind board.size f
outcome_text board (More f g) = codes "more"
outcome_text board GaveUp = codes "gave up"

-- 0 for one solution, 1 for every other outcome
abbrev pub outcome_status : Outcome → ℕ
outcome_status None = 1
outcome_status (One f) = 0
outcome_status (More f g) = 1
outcome_status GaveUp = 1

-- an outcome of the search of a puzzle, as a line
pub record IsOutcomeLine (board : Board) (budget : ℕ) (line : List ℕ) (status : ℕ) : Type 0 where
  pub outcome : Outcome
  pub found : OutcomeOfPuzzle board budget outcome
  pub written : line ≡ on_own_line (outcome_text board outcome)
  pub ends : status ≡ outcome_status outcome

-- the text spells a puzzle, and this is an outcome of its search
pub record IsSolved (text : List ℕ) (budget : ℕ) (line : List ℕ) (status : ℕ) : Type 0 where
  pub board : Board
  pub spells : SpellsText text board
  pub solved : IsOutcomeLine board budget line status

-- a line that may be written for an input, and the exit status
abbrev pub SolveText : List ℕ → ℕ → List ℕ → ℕ → Type 0
SolveText input budget line status =
    ((text : List ℕ) × HasOneLine input text × (IsSolved text budget line status ⊎ IsTextRefused text line status))
    ⊎ (LacksOneLine input × (line ≡ refusal_of (codes "input")) × (status ≡ 2))

-- a line that may be written for the input that was left of the reader was written
abbrev pub IsSolveRun : {R W : Type 0} → ℕ → Streams R W → Tally R → Tally R → Tally W → Tally W → Result ℕ ToolFault
    → Type 0
IsSolveRun budget = IsLineRun (λ input line status. SolveText input budget line status)
