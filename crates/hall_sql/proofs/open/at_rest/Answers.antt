use Rattle.hall_sql.proofs.StoppedLemmas.{rest_at}
use Rattle.hall_sql.proofs.open.at_rest.Goals as goal

pub returns : goal.returns
returns g c = rest_at g.S.Store g.met.S.Store.settled c.args.store.now c.in_hall.ensures
