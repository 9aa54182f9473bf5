use Rattle.std.proofs.Common.{◌∙◌, IsTrue, arith}
use Rattle.sqlite.specs.Held.{state}
use Rattle.sqlite.specs.State.{HasCleanDisk}
use Rattle.hall_sql.proofs.InsideLemmas.{carries_then}
use Rattle.hall_store.proofs.Knowing.{fails_as}
use Rattle.hall_sql.proofs.EachLemmas.{more_grown, next_grows}
use Rattle.hall_sql.proofs.WriteCauseLemmas.{cause_over}
use Rattle.hall_sql.proofs.make.make_tables.Goals as goal

pub loop-table-preserved : goal.loop-table-preserved
loop-table-preserved g c =
    let base = state g.S.Store c.args.tx.now.conn.now in
    let s = state g.S.Store c.loop-table.tx.conn.now in
    let after = state g.S.Store c.make_table.new.tx.conn.now in
    let so = c.loop-table.invariant in
    let it = c.in_ok-make_table.ensures in
    let goes = λ (clean : HasCleanDisk s) (mode : IsTrue base.in_transaction). (so.2 clean mode).mode in (
      it.same_reference ∙ so.0,
      carries_then base s after so.1 goes it.carries,
      λ clean mode.
          let was : HasCleanDisk s = omega (arith, it.carries.lasts.clean, clean) in
          more_grown c.args.tables.now c.loop-table.table-index _ base s after c.loop-table-test.true (so.2 was mode)
          (it.done clean (goes was mode)),
    )

pub returns-in_err-make_table-clause-cause : goal.returns-in_err-make_table-clause-cause
returns-in_err-make_table-clause-cause g c clean inside awaits =
    let base = state g.S.Store c.args.tx.now.conn.now in
    let s = state g.S.Store c.loop-table.tx.conn.now in
    let after = state g.S.Store c.make_table.new.tx.conn.now in
    let so = c.loop-table.invariant in
    let it = c.make_table.ensures in
    let was : HasCleanDisk s = omega (arith, it.carries.lasts.clean, clean) in
    let here = so.2 was inside in
    let has = next_grows c.args.tables.now c.loop-table.table-index _ s.now c.loop-table-test.true (here.made awaits) in
    fails_as c.from_residual.result _ _ c.from_residual.ensures.1 (λ failed.
    cause_over base s after so.1.lasts was it.carries.lasts (c.in_err-make_table.ensures.cause clean here.mode has
    failed))
