use Rattle.sqlite.specs.Values.{bound}
use Rattle.sqlite.specs.Held.{state}
use Rattle.hall_store.proofs.Knowing.{fails_as}
use Rattle.hall_sql.proofs.SoundLemmas.{ran_sound}
use Rattle.hall_sql.proofs.WriteCauseLemmas.{inside_cause}
use Rattle.hall_sql.proofs.calls.write_in.Goals as goal

pub returns-clause-ran : goal.returns-clause-ran
returns-clause-ran g c clean inside =
    let it = c.in_ok-run_in.ensures in
    let ran = it.runs clean inside in
    record {
      mode = it.mode clean inside;
      sound = λ held. ran_sound c.args.sql.now (bound c.args.params.now) (state g.S.Store c.args.tx.now.conn.now)
          (state g.S.Store c.run_in.new.tx.conn.now) _ held.schema c.requires.written ran;
      count = _;
      ran = ran;
    }

pub returns-in_err-run_in-clause-cause : goal.returns-in_err-run_in-clause-cause
returns-in_err-run_in-clause-cause g c clean goes =
    fails_as c.from_residual.result _ _ c.from_residual.ensures.1 (λ failed.
    inside_cause c.args.sql.now (bound c.args.params.now) (state g.S.Store c.args.tx.now.conn.now)
    (state g.S.Store c.run_in.new.tx.conn.now) c.requires.written goes
    (c.in_err-run_in.ensures.cause clean goes.mode failed))
