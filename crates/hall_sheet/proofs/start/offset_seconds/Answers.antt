use Rattle.std.proofs.lemmas.Grind.{common_steps}
use Rattle.std.proofs.Common.{arith}
use Rattle.hall_sheet.proofs.start.offset_seconds.Goals as goal

pub returns-in_err-west : goal.returns-in_err-west
returns-in_err-west c = grind (arith, common_steps)

pub overflow_sub-result : goal.overflow_sub-result
overflow_sub-result c = grind (arith, common_steps)

pub returns-then-has_form-2 : goal.returns-then-has_form-2
returns-then-has_form-2 c = grind (arith, common_steps)
