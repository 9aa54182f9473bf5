use Rattle.std.proofs.Common.{◌∙◌, take}
use Rattle.sqlite.specs.Held.{state}
use Rattle.hall_policy.specs.Sink.{HasTaken}
use Rattle.hall_sql.proofs.EachLemmas.{more_added}
use Rattle.hall_sql.proofs.InsideLemmas.{more_calls}
use Rattle.hall_store.proofs.Knowing.{fails_as}
use Rattle.hall_sql.proofs.WriteCauseLemmas.{then_cause, next_is}
use Rattle.hall_sql.proofs.added.add_each.Goals as goal

pub loop-record-preserved : goal.loop-record-preserved
loop-record-preserved g c =
    let base = state g.S.Store c.args.tx.now.conn.now in
    let s = state g.S.Store c.loop-record.tx.conn.now in
    let after = state g.S.Store c.add.new.tx.conn.now in
    let so = c.loop-record.invariant in
    let it = c.in_ok-add.ensures in
    let (carries, did) = more_calls base s after so.1 so.2 it.carries it.done
    (more_added g.T.Added.adds c.args.records.now c.loop-record.record-index c.record-item.result base s after
    c.loop-record-test.true c.record-item.is) in
    (it.same_reference ∙ so.0, carries, did)

pub returns-in_err-add-clause-cause : goal.returns-in_err-add-clause-cause
returns-in_err-add-clause-cause g c clean goes =
    let s = state g.S.Store c.loop-record.tx.conn.now in
    let so = c.loop-record.invariant in
    fails_as c.from_residual.result _ _ c.from_residual.ensures.1 (λ failed.
    then_cause (λ a b. HasTaken g.T.Added.adds a (take c.loop-record.record-index c.args.records.now) b)
    (state g.S.Store c.args.tx.now.conn.now) s (state g.S.Store c.add.new.tx.conn.now) so.1.lasts
    c.add.ensures.carries.lasts so.2
    (λ hall before refused. record {
      at = c.loop-record.record-index;
      one = c.record-item.result;
      next = next_is c.args.records.now c.loop-record.record-index c.record-item.result c.loop-record-test.true
          c.record-item.is;
      mid = s.now;
      hall = hall;
      before = before;
      refused = refused;
    }) clean goes (λ on. c.in_err-add.ensures.cause clean on failed))
