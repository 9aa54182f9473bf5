use Rattle.std.proofs.Common.{◌∙◌, ◌+◌, take, ap}
use Rattle.sqlite.specs.Held.{state}
use Rattle.hall_sql.specs.RoundPuts.{PutsPlaces}
use Rattle.hall_sql.proofs.InsideLemmas.{more_calls}
use Rattle.hall_sql.proofs.PlaceWrites.{more_did}
use Rattle.hall_store.proofs.Knowing.{fails_as}
use Rattle.hall_sql.proofs.WriteCauseLemmas.{then_cause, next_is}
use Rattle.hall_sql.proofs.round_writes.put_places.Goals as goal

pub loop-entry-preserved : goal.loop-entry-preserved
loop-entry-preserved g c =
    let base = state g.S.Store c.args.tx.now.conn.now in
    let s = state g.S.Store c.loop-entry.tx.conn.now in
    let after = state g.S.Store c.put_place.new.tx.conn.now in
    let so = c.loop-entry.invariant in
    let it = c.in_ok-put_place.ensures in
    let (carries, did) = more_calls base s after so.2 so.3 it.carries it.done
    (more_did c.args.id.now c.args.entries.now c.loop-entry.entry-index c.loop-entry.number c.entry-item.result base s
    after so.1
    c.loop-entry-test.true c.entry-item.is) in
    (it.same_reference ∙ so.0, ap (λ n. n + 1) so.1, carries, did)

pub returns-in_err-put_place-clause-cause : goal.returns-in_err-put_place-clause-cause
returns-in_err-put_place-clause-cause g c clean goes =
    let s = state g.S.Store c.loop-entry.tx.conn.now in
    let so = c.loop-entry.invariant in
    fails_as c.from_residual.result _ _ c.from_residual.ensures.1 (λ failed.
    then_cause (PutsPlaces c.args.id.now (take c.loop-entry.entry-index c.args.entries.now))
    (state g.S.Store c.args.tx.now.conn.now) s (state g.S.Store c.put_place.new.tx.conn.now) so.2.lasts
    c.put_place.ensures.carries.lasts so.3
    (λ hall puts refused. record {
      at = c.loop-entry.entry-index;
      entry = c.entry-item.result;
      next = next_is c.args.entries.now c.loop-entry.entry-index c.entry-item.result c.loop-entry-test.true
          c.entry-item.is;
      placed = s.now;
      hall = hall;
      puts = puts;
      refused = rw so.1 at refused;
    }) clean goes (λ on. c.in_err-put_place.ensures.cause clean on failed))
