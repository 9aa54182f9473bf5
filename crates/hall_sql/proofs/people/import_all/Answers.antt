use Rattle.std.proofs.Common.{◌∙◌}
use Rattle.sqlite.specs.Held.{state}
use Rattle.hall_sql.proofs.InsideLemmas.{did_both, more_calls}
use Rattle.hall_sql.proofs.EachLemmas.{HasImported, more_imported}
use Rattle.hall_store.proofs.Knowing.{fails_as}
use Rattle.hall_sql.proofs.WriteCauseLemmas.{then_cause, next_is}
use Rattle.hall_sql.proofs.people.import_all.Goals as goal

pub loop-person-preserved : goal.loop-person-preserved
loop-person-preserved g c =
    let base = state g.S.Store c.args.tx.now.conn.now in
    let s = state g.S.Store c.loop-person.tx.conn.now in
    let after = state g.S.Store c.import_one.new.tx.conn.now in
    let so = c.loop-person.invariant in
    let it = c.in_ok-import_one.ensures in
    let (carries, did) = more_calls base s after so.1 so.2 it.carries
    (λ clean mode. did_both _ _ s after (it.done clean mode) (it.row clean mode))
    (more_imported c.args.people.now c.loop-person.person-index c.person-item.result base s after
    c.loop-person-test.true
    c.person-item.is) in
    (it.same_reference ∙ so.0, carries, did)

pub returns-in_err-import_one-clause-cause : goal.returns-in_err-import_one-clause-cause
returns-in_err-import_one-clause-cause g c clean goes =
    let s = state g.S.Store c.loop-person.tx.conn.now in
    let so = c.loop-person.invariant in
    fails_as c.from_residual.result _ _ c.from_residual.ensures.1 (λ failed.
    then_cause (HasImported c.args.people.now c.loop-person.person-index) (state g.S.Store c.args.tx.now.conn.now) s
    (state g.S.Store c.import_one.new.tx.conn.now) so.1.lasts
    c.import_one.ensures.carries.lasts so.2
    (λ hall before refused. record {
      at = c.loop-person.person-index;
      person = c.person-item.result;
      next = next_is c.args.people.now c.loop-person.person-index c.person-item.result c.loop-person-test.true
          c.person-item.is;
      mid = c.loop-person.tx.conn.now;
      left = c.import_one.new.tx.conn.now;
      hall = hall;
      before = before.rows;
      refused = refused;
    }) clean goes (λ on. c.in_err-import_one.ensures.cause clean on failed))
