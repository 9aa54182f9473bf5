use Rattle.hall_sql.proofs.StoreLemmas.{over_hall, rested_hall}
use Rattle.hall_sql.proofs.reads.read.Goals as goal

pub read_any-requires : goal.read_any-requires
read_any-requires g c = record { asks = over_hall c.requires.hall c.requires.asks }

pub returns-clause-rested : goal.returns-clause-rested
returns-clause-rested g c = rested_hall c.requires.hall c.read_any.ensures.rested
