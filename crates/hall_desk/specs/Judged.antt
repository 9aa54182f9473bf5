-- The verdict on an answer to a puzzle that is kept.
use Rattle.std.specs.Prelude.{◌≡◌, ◌⊎◌, ℕ, Bool, false, List, IsTrue}
use Rattle.hall_grid.specs.declared.rule.Rule.{Rule as Broken}
use Rattle.hall_grid.specs.Rule.{IsNameSet, Names}
use Rattle.hall_grid.specs.Answer.{Verdict}
use Rattle.hall_policy.specs.World.{same_text}
use Rattle.hall_policy.specs.declared.record.PuzzleRow.{PuzzleRow}
use Rattle.hall_policy.specs.declared.record.PuzzleState.{PuzzleState}
use Rattle.hall_policy.specs.declared.record.PuzzleState.TheVariants as state

-- the verdict names no rule
abbrev pub NamesNoRule : ℕ → Type 0
NamesNoRule names = (rule : Broken) → ¬ (Names names rule)

-- whether the text is that of the stored solution
abbrev pub is_solution : PuzzleState → List ℕ → Bool
is_solution (state.One solution) answer = same_text solution answer
is_solution state.New answer = false
is_solution state.NoSolution answer = false
is_solution state.More answer = false
is_solution state.GaveUp answer = false

-- the text of the stored solution is right, and any other is judged
abbrev pub IsVerdictOn : PuzzleRow → List ℕ → ℕ → Type 0
IsVerdictOn row answer verdict =
    (IsTrue (is_solution row.state answer) × IsNameSet verdict × NamesNoRule verdict)
    ⊎ ((is_solution row.state answer ≡ false) × Verdict row.puzzle answer verdict)
