use Rattle.std.proofs.Common.{arith}
use Rattle.sqlite.specs.Held.{state}
use Rattle.sqlite.specs.State.{HasCleanDisk}
use Rattle.hall_store.proofs.Knowing.{fails_as}
use Rattle.hall_sql.proofs.LastLemmas.{last_then, quiet_then}
use Rattle.hall_sql.specs.declared.tables.HallTable.TheVariants.{People}
use Rattle.hall_sql.proofs.ScanLemmas.{scanned_next}
use Rattle.hall_sql.proofs.ScanCauseLemmas.{scan_cause}
use Rattle.std.proofs.Common.{get_or, sym, subst}
use Rattle.std.proofs.lemmas.List.Elements.{All-from_recursion}
use Rattle.sqlite.specs.Effect.{Database}
use Rattle.hall_sql.specs.Versions.{HasTable}
use Rattle.hall_sql.proofs.scan.check_all_rowids.Goals as goal

pub check_rowids-requires : goal.check_rowids-requires
check_rowids-requires g c = record {
  schema = λ clean.
      let old = state g.S.Store c.args.conn.now in
      let so = c.loop-table.invariant in
      let was : HasCleanDisk old = omega (arith, so.0.clean, clean) in
      subst (λ (d : Database). HasTable d.schema (get_or c.args.tables.now c.loop-table.table-index People))
      (sym (so.2 clean).left.now_is)
      (All-from_recursion (HasTable c.args.conn.now.schema) c.args.tables.now (c.requires.schema was)
      c.loop-table.table-index People c.loop-table-test.true);
}

pub returns-in_err-check_rowids-clause-cause : goal.returns-in_err-check_rowids-clause-cause
returns-in_err-check_rowids-clause-cause g c clean =
    let old = state g.S.Store c.args.conn.now in
    let mid = state g.S.Store c.loop-table.conn in
    let new = state g.S.Store c.check_rowids.new.conn in
    let so = c.loop-table.invariant in
    let was : HasCleanDisk mid = omega (arith, c.check_rowids.ensures.lasts.clean, clean) in
    fails_as c.from_residual.result _ _ c.from_residual.ensures.1 (λ failed.
    scan_cause c.args.tables.now _ c.loop-table.table-index _ old mid new c.loop-table-test.true so.0 was
    c.check_rowids.ensures.lasts (so.2 was)
    (c.in_err-check_rowids.ensures.cause clean failed))

pub loop-table-preserved : goal.loop-table-preserved
loop-table-preserved g c =
    let old = state g.S.Store c.args.conn.now in
    let mid = state g.S.Store c.loop-table.conn in
    let new = state g.S.Store c.check_rowids.new.conn in
    let so = c.loop-table.invariant in
    let it = c.in_ok-check_rowids.ensures in (
      last_then old mid new so.0 it.lasts,
      quiet_then old mid new so.1 it.lasts it.stops,
      λ clean.
          let was : HasCleanDisk mid = omega (arith, it.lasts.clean, clean) in
          scanned_next c.args.tables.now c.loop-table.table-index People old mid new c.loop-table-test.true (so.2 was)
          (it.scanned clean).0 (it.scanned clean).1,
    )

pub returns-in_err-check_rowids-clause-stops : goal.returns-in_err-check_rowids-clause-stops
returns-in_err-check_rowids-clause-stops g c =
    quiet_then (state g.S.Store c.args.conn.now) (state g.S.Store c.loop-table.conn)
    (state g.S.Store c.check_rowids.new.conn)
    c.loop-table.invariant.1 c.check_rowids.ensures.lasts c.check_rowids.ensures.stops
