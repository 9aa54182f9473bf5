use Rattle.std.proofs.Common.{◌∙◌, take}
use Rattle.sqlite.specs.Held.{state}
use Rattle.hall_sql.specs.RoundPuts.{PutsTesters}
use Rattle.hall_sql.proofs.InsideLemmas.{more_calls}
use Rattle.hall_sql.proofs.TesterWrites.{more_did}
use Rattle.hall_store.proofs.Knowing.{fails_as}
use Rattle.hall_sql.proofs.WriteCauseLemmas.{then_cause, next_is}
use Rattle.hall_sql.proofs.testers.put_testers.Goals as goal

pub loop-name-preserved : goal.loop-name-preserved
loop-name-preserved g c =
    let base = state g.S.Store c.args.tx.now.conn.now in
    let s = state g.S.Store c.loop-name.tx.conn.now in
    let after = state g.S.Store c.put_tester.new.tx.conn.now in
    let so = c.loop-name.invariant in
    let it = c.in_ok-put_tester.ensures in
    let (carries, did) = more_calls base s after so.1 so.2 it.carries it.done
    (more_did c.args.round.now c.args.names.now c.loop-name.name-index c.name-item.result base s after
    c.requires.different
    c.loop-name-test.true c.name-item.is) in
    (it.same_reference ∙ so.0, carries, did)

pub returns-in_err-put_tester-clause-cause : goal.returns-in_err-put_tester-clause-cause
returns-in_err-put_tester-clause-cause g c clean goes =
    let s = state g.S.Store c.loop-name.tx.conn.now in
    let so = c.loop-name.invariant in
    fails_as c.from_residual.result _ _ c.from_residual.ensures.1 (λ failed.
    then_cause (PutsTesters c.args.round.now (take c.loop-name.name-index c.args.names.now))
    (state g.S.Store c.args.tx.now.conn.now) s (state g.S.Store c.put_tester.new.tx.conn.now) so.1.lasts
    c.put_tester.ensures.carries.lasts so.2
    (λ hall puts refused. record {
      at = c.loop-name.name-index;
      name = c.name-item.result;
      next = next_is c.args.names.now c.loop-name.name-index c.name-item.result c.loop-name-test.true c.name-item.is;
      placed = s.now;
      hall = hall;
      puts = puts;
      refused = refused;
    }) clean goes (λ on. c.in_err-put_tester.ensures.cause clean on failed))
