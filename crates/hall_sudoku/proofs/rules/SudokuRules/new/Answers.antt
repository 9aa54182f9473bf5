use Rattle.std.proofs.lemmas.Result.{IfOk-from_err}
use Rattle.hall_sudoku.proofs.rules.SudokuRules.new.Goals as goal

pub returns-in_err-units : goal.returns-in_err-units
returns-in_err-units c = IfOk-from_err c.from_residual.result _ c.from_residual.ensures.0
