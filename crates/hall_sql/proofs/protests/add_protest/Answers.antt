use Rattle.sqlite.specs.Held.{state}
use Rattle.hall_store.specs.declared.change.Change.TheVariants.{AddProtest}
use Rattle.hall_sql.specs.declared.protests.TheConstants.{ADD_PROTEST}
use Rattle.hall_sql.specs.Columns.{protest_params}
use Rattle.hall_sql.proofs.ProtestWrites.{protest_added}
use Rattle.hall_sql.proofs.StopLemmas.{run_wrote}
use Rattle.hall_sql.proofs.Written.{add_protest_written}
use Rattle.hall_sql.proofs.protests.add_protest.Goals as goal

pub run-requires-clause-written : goal.run-requires-clause-written
run-requires-clause-written g c = rw c.columns.ensures (add_protest_written c.args.row.now)

pub returns-clause-wrote : goal.returns-clause-wrote
returns-clause-wrote g c =
    let old = state g.S.Store c.args.conn.now in
    run_wrote (AddProtest c.args.row.now) ADD_PROTEST.now (protest_params c.args.row.now) old
    (state g.S.Store c.run.new.conn) c.run.result c.requires.hall
    (add_protest_written c.args.row.now) (λ was opened new count ran.
    protest_added c.args.row.now c.in_range.ensures old new count ran c.requires.hall was
    (λ opened. (c.requires.can was opened).fresh)) (rw c.columns.ensures at c.run.ensures.calls)
