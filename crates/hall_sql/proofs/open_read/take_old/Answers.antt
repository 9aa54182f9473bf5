use Rattle.std.proofs.Common.{inr}
use Rattle.hall_sql.proofs.open_read.take_old.Goals as goal

pub returns-in-Err-clause-cause : goal.returns-in-Err-clause-cause
returns-in-Err-clause-cause g c clean failed = inr (inr (c.requires.old, c.in-Err.ensures.cause clean failed))
