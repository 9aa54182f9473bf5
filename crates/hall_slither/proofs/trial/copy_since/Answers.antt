use Rattle.std.proofs.lemmas.Result.{IfOk-from_err}
use Rattle.std.proofs.lemmas.Grind.{common_steps}
use Rattle.std.proofs.Common.{arith}
use Rattle.hall_slither.proofs.trial.copy_since.Goals as goal

pub loop-side-preserved : goal.loop-side-preserved
loop-side-preserved c = grind (arith, common_steps)

pub returns-in_err-push : goal.returns-in_err-push
returns-in_err-push c = record { held = IfOk-from_err c.from_residual.result _ c.from_residual.ensures.0 }
