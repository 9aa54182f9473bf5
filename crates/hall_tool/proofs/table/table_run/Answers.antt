use Rattle.std.proofs.Common.{rules}
use Rattle.hall_tool.proofs.table.table_run.Goals as goal

pub returns-in_err-ending-clause-fault : goal.returns-in_err-ending-clause-fault
returns-in_err-ending-clause-fault g c = λ store. c.in_err-ending.ensures.fault (search rules)
