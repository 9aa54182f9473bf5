use Rattle.hall_sql.proofs.OpenedLemmas.{memory_serves, one_world}
use Rattle.hall_sql.proofs.open.law_opened.Goals as goal

pub returns-clause-found : goal.returns-clause-found
returns-clause-found c = one_world

pub returns-clause-memory : goal.returns-clause-memory
returns-clause-memory c = memory_serves
