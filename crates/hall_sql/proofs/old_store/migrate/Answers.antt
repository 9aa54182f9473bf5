use Rattle.sqlite.specs.Held.{state}
use Rattle.hall_sql.proofs.MigrationLemmas.{migrated, unmigrated}
use Rattle.hall_sql.proofs.old_store.migrate.Goals as goal

pub returns-in_err-rows : goal.returns-in_err-rows
returns-in_err-rows g c =
    unmigrated (state g.S.Store c.args.old.now) (state g.S.Store c.read_rows.new.self) (state g.T.Store c.args.new.now)
    _ c.from_residual.result
    c.from_residual.ensures.1 c.in_err-rows.ensures.rested c.in_err-rows.ensures.cause c.in_hall.ensures

pub returns : goal.returns
returns g c =
    migrated (state g.S.Store c.args.old.now) (state g.S.Store c.read_rows.new.self) (state g.T.Store c.args.new.now)
    (state g.T.Store c.take_rows.new.self)
    c.in_ok-rows.rows c.take_rows.result c.in_ok-rows.ensures.rested c.in_ok-rows.ensures.served
    c.in_ok-rows.ensures.whole c.take_rows.ensures.leaves
    c.take_rows.ensures.stops c.take_rows.ensures.takes c.take_rows.ensures.cause
