use Rattle.std.proofs.lemmas.Result.{on_ok_weaker}
use Rattle.sqlite.specs.Held.{state}
use Rattle.hall_sql.specs.declared.protests.TheConstants.{ADD_PROTEST}
use Rattle.hall_sql.specs.Columns.{protest_params}
use Rattle.hall_sql.specs.Fill.{AddsProtest}
use Rattle.hall_sql.proofs.InsideLemmas.{did_run}
use Rattle.hall_sql.proofs.Written.{add_protest_written}
use Rattle.hall_sql.proofs.ProtestWrites.{protest_put}
use Rattle.hall_sql.proofs.protests.add_inside.Goals as goal

pub write_in-requires : goal.write_in-requires
write_in-requires g c = record { written = rw c.columns.ensures (add_protest_written c.args.row.now) }

pub returns-clause-done : goal.returns-clause-done
returns-clause-done g c clean inside =
    on_ok_weaker c.write_in.result (λ it.
    did_run (λ a b. AddsProtest a c.args.row.now b) ADD_PROTEST.now (protest_params c.args.row.now)
    (state g.S.Store c.args.tx.now.conn.now) (state g.S.Store c.write_in.new.tx.conn.now) it
    (protest_put c.args.row.now c.in_range.ensures _ _)) ((rw c.columns.ensures at c.write_in.ensures.ran) clean inside)
