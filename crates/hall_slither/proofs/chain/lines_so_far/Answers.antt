use Rattle.std.proofs.lemmas.Result.{IfOk-from_err}
use Rattle.hall_slither.proofs.chain.lines_so_far.Goals as goal

pub returns-in_err-lines : goal.returns-in_err-lines
returns-in_err-lines c = IfOk-from_err c.from_residual.result _ c.from_residual.ensures.0
