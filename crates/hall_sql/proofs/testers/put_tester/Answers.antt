use Rattle.std.proofs.lemmas.Result.{on_ok_weaker}
use Rattle.sqlite.specs.Held.{state}
use Rattle.hall_sql.specs.declared.testers.TheConstants.{ADD_TESTER}
use Rattle.hall_sql.specs.RoundColumns.{tester_params}
use Rattle.hall_sql.specs.RoundPuts.{PutsTester}
use Rattle.hall_sql.proofs.InsideLemmas.{did_run}
use Rattle.hall_sql.proofs.Written.{add_tester_written}
use Rattle.hall_sql.proofs.TesterWrites.{tester_added}
use Rattle.hall_sql.proofs.testers.put_tester.Goals as goal

pub write_in-requires : goal.write_in-requires
write_in-requires g c = record {
  written = rw (
    c.params-to_sql.ensures,
    c.params-to_sql-2.ensures,
    c.as_str.ensures.text,
    c.as_str-2.ensures.text,
  ) (add_tester_written c.args.round.now c.args.name.now);
}

pub returns-clause-done : goal.returns-clause-done
returns-clause-done g c clean inside =
    on_ok_weaker c.write_in.result (λ it.
    did_run (PutsTester c.args.round.now c.args.name.now) ADD_TESTER.now
    (tester_params c.args.round.now c.args.name.now) (state g.S.Store c.args.tx.now.conn.now)
    (state g.S.Store c.write_in.new.tx.conn.now) it
    (λ count ran held. tester_added c.args.round.now _ _ count held c.args.name.now c.as_str.ensures.of_kind
    c.as_str-2.ensures.of_kind ran)) ((rw (
      c.params-to_sql.ensures,
      c.params-to_sql-2.ensures,
      c.as_str.ensures.text,
      c.as_str-2.ensures.text,
    ) at c.write_in.ensures.ran) clean inside)
