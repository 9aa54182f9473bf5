-- What new searches tell of puzzles' states.
use Rattle.std.specs.Prelude.{◌≡◌, ◌++◌, ◌∷◌, ◌⊎◌, ℕ, false, List, [], map}
use Rattle.hall_grid.specs.Board.{Board}
use Rattle.hall_solve.specs.Puzzle.{OutcomeOfPuzzle}
use Rattle.hall_solve.specs.declared.outcome.Outcome.TheVariants as outcome
use Rattle.hall_policy.specs.declared.record.PuzzleRow.{PuzzleRow}
use Rattle.hall_policy.specs.declared.record.PuzzleState.{PuzzleState}
use Rattle.hall_check.specs.Finds.{AreParted, EveryRow, Finds, IsBreachTold}
use Rattle.hall_desk.specs.Sane.{IsTrueState}
use Rattle.hall_check.specs.Spots.{puzzle_spot}
use Rattle.hall_desk.specs.Step.{is_open}
use Rattle.hall_check.specs.declared.sentence.Sentence.TheVariants.{StateTrue}
use Rattle.hall_check.specs.declared.puzzle_states.Judged.{Judged}
use Rattle.hall_check.specs.declared.puzzle_states.Judged.TheVariants.{True, False, Undecided}
use Rattle.hall_check.specs.declared.puzzle_states.States.{States}

-- the state says something of the puzzle, and a search of it may give up within the budget
abbrev pub IsUndecided : ℕ → Board → PuzzleState → Type 0
IsUndecided budget puzzle state = (is_open state ≡ false) × OutcomeOfPuzzle puzzle budget outcome.GaveUp

-- what is judged of the state
abbrev pub IsJudgedSo : Board → ℕ → PuzzleState → Judged → Type 0
IsJudgedSo puzzle budget state True = IsTrueState puzzle state
IsJudgedSo puzzle budget state False = ¬ (IsTrueState puzzle state)
IsJudgedSo puzzle budget state Undecided = IsUndecided budget puzzle state

-- it is told whether the state is true, or the puzzle is one more of the undecided
abbrev pub IsStateTold : ℕ → PuzzleRow → States → States → Type 0
IsStateTold budget row old new =
    (IsBreachTold (IsTrueState row.puzzle row.state) (puzzle_spot row) old.found new.found
    × (new.undecided ≡ old.undecided))
    ⊎ (IsUndecided budget row.puzzle row.state × (new.found ≡ old.found)
    × (new.undecided.items ≡ old.undecided.items ++ row.key ∷ []))

-- each puzzle is decided or not: of all that are, the sentence on true states is told as any other, and all others are
-- listed, in their order
pub record AreStatesTold (budget : ℕ) (rows : List PuzzleRow) (states : States) : Type 0 where
  pub decided : List PuzzleRow
  pub undecided : List PuzzleRow
  pub parted : AreParted rows decided undecided
  pub sentence : states.found.sentence ≡ StateTrue
  pub finds : Finds (λ row. IsTrueState row.puzzle row.state) puzzle_spot decided states.found
  pub gave_up : EveryRow (λ row. IsUndecided budget row.puzzle row.state) undecided
  pub listed : states.undecided.items ≡ map (λ row. row.key) undecided
