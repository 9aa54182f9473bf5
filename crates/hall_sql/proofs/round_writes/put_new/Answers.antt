use Rattle.std.proofs.lemmas.Result.{on_ok_weaker}
use Rattle.sqlite.specs.Held.{state}
use Rattle.hall_sql.specs.RoundColumns.{head_params}
use Rattle.hall_sql.specs.declared.round_writes.TheConstants.{ADD_HEAD}
use Rattle.hall_sql.specs.Fill.{AddsHead}
use Rattle.hall_sql.proofs.InsideLemmas.{did_run}
use Rattle.hall_sql.proofs.RoundWrites.{head_added, head_inserted}
use Rattle.hall_sql.proofs.Written.{add_head_written}
use Rattle.hall_sql.proofs.round_writes.put_new.Goals as goal

pub write_in-requires : goal.write_in-requires
write_in-requires g c = record { written = rw c.columns.ensures (add_head_written c.args.round.now) }

pub returns-clause-done : goal.returns-clause-done
returns-clause-done g c clean inside =
    on_ok_weaker c.write_in.result (λ it. record {
      mode = it.mode;
      sound = it.sound;
      puts = λ held. head_added c.args.round.now c.in_range.ensures _ _ it.count held it.ran;
    }) ((rw c.columns.ensures at c.write_in.ensures.ran) clean inside)

pub returns-clause-added : goal.returns-clause-added
returns-clause-added g c clean inside =
    on_ok_weaker c.write_in.result (λ it.
    did_run (λ a b. AddsHead a c.args.round.now b) ADD_HEAD.now (head_params c.args.round.now)
    (state g.S.Store c.args.tx.now.conn.now)
    (state g.S.Store c.write_in.new.tx.conn.now) it
    (λ count ran held. head_inserted c.args.round.now c.in_range.ensures _ _ count held ran))
    ((rw c.columns.ensures at c.write_in.ensures.ran) clean inside)
