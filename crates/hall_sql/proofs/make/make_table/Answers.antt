use Rattle.sqlite.specs.Held.{state}
use Rattle.hall_store.proofs.Knowing.{fails_as}
use Rattle.hall_sql.proofs.MakeLemmas.{made_next, made_sound}
use Rattle.hall_sql.proofs.MakeCauseLemmas.{making_cause}
use Rattle.hall_sql.proofs.make.make_table.Goals as goal

pub returns-clause-done : goal.returns-clause-done
returns-clause-done g c clean inside =
    let it = c.in_ok-run_in.ensures in
    let ran = rw c.table_text.ensures at it.runs clean inside in
    record {
      mode = it.mode clean inside;
      made = made_next c.args.table (state g.S.Store c.args.tx.now.conn.now) (state g.S.Store c.run_in.new.tx.conn.now)
          _ ran;
      sound = made_sound c.args.table (state g.S.Store c.args.tx.now.conn.now)
          (state g.S.Store c.run_in.new.tx.conn.now) _ ran;
    }

pub returns-in_err-run_in-clause-cause : goal.returns-in_err-run_in-clause-cause
returns-in_err-run_in-clause-cause g c clean inside has =
    fails_as c.from_residual.result _ _ c.from_residual.ensures.1 (λ failed.
    let it = rw c.table_text.ensures at c.in_err-run_in.ensures.cause clean inside failed in
    making_cause c.args.table (state g.S.Store c.args.tx.now.conn.now) (state g.S.Store c.run_in.new.tx.conn.now) it.0
    it.1 has it.2)
