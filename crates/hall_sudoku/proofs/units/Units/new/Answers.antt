use Rattle.std.proofs.lemmas.Result.{IfOk-from_err}
use Rattle.hall_sudoku.proofs.units.Units.new.Goals as goal

pub returns-in_err-table : goal.returns-in_err-table
returns-in_err-table c = IfOk-from_err c.from_residual.result _ c.from_residual.ensures.0
