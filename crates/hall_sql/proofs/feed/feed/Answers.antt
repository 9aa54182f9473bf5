use Rattle.hall_sql.proofs.StoreLemmas.{over_hall, rested_hall}
use Rattle.hall_sql.proofs.feed.feed.Goals as goal

pub feed_any-requires : goal.feed_any-requires
feed_any-requires g c = record { asks = over_hall c.requires.hall c.requires.asks }

pub returns-clause-rested : goal.returns-clause-rested
returns-clause-rested g c = rested_hall c.requires.hall c.feed_any.ensures.rested
