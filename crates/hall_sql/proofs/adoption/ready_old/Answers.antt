use Rattle.std.proofs.Common.{inr}
use Rattle.hall_sql.proofs.adoption.ready_old.Goals as goal

pub returns-in-Err-clause-cause : goal.returns-in-Err-clause-cause
returns-in-Err-clause-cause g c clean = λ failed. inr (c.in-Err.ensures.cause clean failed)
