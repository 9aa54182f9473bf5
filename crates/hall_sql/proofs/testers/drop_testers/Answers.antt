use Rattle.std.proofs.Common.{[], ◌∷◌}
use Rattle.std.proofs.lemmas.Result.{on_ok_weaker}
use Rattle.sqlite.specs.Held.{state}
use Rattle.hall_sql.specs.declared.testers.TheConstants.{DROP_TESTERS}
use Rattle.sqlite.specs.declared.types.Value.TheVariants.{Text}
use Rattle.hall_sql.specs.RoundPuts.{DropsTesters}
use Rattle.hall_sql.proofs.InsideLemmas.{did_run}
use Rattle.hall_sql.proofs.Written.{drop_testers_written}
use Rattle.hall_sql.proofs.TesterWrites.{testers_dropped}
use Rattle.hall_sql.proofs.testers.drop_testers.Goals as goal

pub write_in-requires : goal.write_in-requires
write_in-requires g c = record {
  written = rw (c.params-to_sql.ensures, c.as_str.ensures.text)
      (drop_testers_written c.args.round.now);
}

pub returns-clause-done : goal.returns-clause-done
returns-clause-done g c clean inside =
    on_ok_weaker c.write_in.result (λ it.
    did_run (DropsTesters c.args.round.now) DROP_TESTERS.now (Text c.args.round.now ∷ [])
    (state g.S.Store c.args.tx.now.conn.now) (state g.S.Store c.write_in.new.tx.conn.now) it
    (λ count ran held. testers_dropped c.args.round.now _ _ count held ran))
    ((rw (c.params-to_sql.ensures, c.as_str.ensures.text) at c.write_in.ensures.ran) clean inside)
