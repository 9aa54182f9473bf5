use Rattle.sqlite.specs.Held.{state}
use Rattle.hall_sql.proofs.MigrationLemmas.{filled_stops, filled_takes}
use Rattle.hall_store.proofs.Knowing.{fails_as}
use Rattle.hall_sql.proofs.FillCauseLemmas.{by_first}
use Rattle.hall_sql.proofs.migration.fill_counted.Goals as goal

pub returns-in_ok-fill-in-Some-clause-takes : goal.returns-in_ok-fill-in-Some-clause-takes
returns-in_ok-fill-in-Some-clause-takes g c world own bare =
    let it = c.in_ok-fill-in-Some.ensures in
    filled_takes (state g.T.Store c.args.conn.now) (state g.T.Store c.fill.new.conn) world c.args.rows.now
    c.in-Some.count own bare
    c.in-Some.ensures.count c.requires.nothing it.leads it.filled

pub returns-in_ok-fill-in-Some-clause-stops : goal.returns-in_ok-fill-in-Some-clause-stops
returns-in_ok-fill-in-Some-clause-stops g c world own bare =
    filled_stops (state g.T.Store c.args.conn.now) (state g.T.Store c.fill.new.conn) world c.args.rows.now own bare
    c.requires.nothing c.fill.ensures.leads c.fill.ensures.stops

pub returns-in_err-fill-in-Some-clause-stops : goal.returns-in_err-fill-in-Some-clause-stops
returns-in_err-fill-in-Some-clause-stops g c world own bare =
    filled_stops (state g.T.Store c.args.conn.now) (state g.T.Store c.fill.new.conn) world c.args.rows.now own bare
    c.requires.nothing c.fill.ensures.leads c.fill.ensures.stops

pub returns-in_err-fill-in-Some-clause-cause : goal.returns-in_err-fill-in-Some-clause-cause
returns-in_err-fill-in-Some-clause-cause g c clean =
    fails_as c.from_residual.result _ _ c.from_residual.ensures.1 (λ failed.
    by_first (c.in_err-fill-in-Some.ensures.cause clean failed))
