use Rattle.std.proofs.Common.{arith, get_or, take}
use Rattle.std.proofs.lemmas.List.{take_more}
use Rattle.std.proofs.lemmas.List.Elements.{All-from_recursion}
use Rattle.sqlite.specs.Held.{state}
use Rattle.sqlite.specs.State.{HasCleanDisk}
use Rattle.hall_sql.specs.Versions.{HasTable}
use Rattle.hall_sql.specs.declared.tables.HallTable.TheVariants.{People}
use Rattle.hall_sql.proofs.BadRowLemmas.{told_next}
use Rattle.hall_store.proofs.Knowing.{fails_as}
use Rattle.hall_sql.proofs.RowReads.{rests_twice}
use Rattle.hall_sql.proofs.WriteCauseLemmas.{cause_over}
use Rattle.hall_sql.proofs.bad_rows.bad_rows.Goals as goal

pub bad_rows_of-requires : goal.bad_rows_of-requires
bad_rows_of-requires g c =
    let so = c.loop-table.invariant in
    let over = c.requires.has in
    record {
      has = record {
        schema = over.schema;
        tabled = (so.0 over.schema over.tabled).tabled;
        fits = λ found like. All-from_recursion (HasTable found) c.args.tables.now (over.fits found like)
            c.loop-table.table-index People c.loop-table-test.true;
      };
    }

pub returns-in_err-rows-clause-rested : goal.returns-in_err-rows-clause-rested
returns-in_err-rows-clause-rested g c =
    rests_twice (state g.S.Store c.args.conn.now) (state g.S.Store c.loop-table.conn)
    (state g.S.Store c.bad_rows_of.new.conn)
    c.loop-table.invariant.0 c.in_err-rows.ensures.rested

pub returns-in_err-add-clause-rested : goal.returns-in_err-add-clause-rested
returns-in_err-add-clause-rested g c =
    rests_twice (state g.S.Store c.args.conn.now) (state g.S.Store c.loop-table.conn)
    (state g.S.Store c.bad_rows_of.new.conn)
    c.loop-table.invariant.0 c.in_ok-rows.ensures.rested

pub loop-table-preserved : goal.loop-table-preserved
loop-table-preserved g c =
    let old = state g.S.Store c.args.conn.now in
    let mid = state g.S.Store c.loop-table.conn in
    let new = state g.S.Store c.bad_rows_of.new.conn in
    let so = c.loop-table.invariant in
    let over = c.requires.has in
    let first = so.0 over.schema over.tabled in
    let it = c.in_ok-rows.ensures in
    let second = it.rested over.schema first.tabled in
    let tables = c.args.tables.now in
    let i = c.loop-table.table-index in
    let items = c.in_ok-add.ensures.added in (
      rests_twice old mid new so.0 it.rested,
      λ clean.
          let was : HasCleanDisk mid = omega (arith, second.follows.lasts.clean, clean) in
          rw (take_more tables i People c.loop-table-test.true, items)
          (told_next (take i tables) (get_or tables i People) over.schema old mid new c.loop-table.bad.items
          c.in_ok-rows.rows clean first second (so.1 was).1 (it.bad clean)),
    )

pub returns-in_err-rows-clause-cause : goal.returns-in_err-rows-clause-cause
returns-in_err-rows-clause-cause g c clean =
    let old = state g.S.Store c.args.conn.now in
    let mid = state g.S.Store c.loop-table.conn in
    let new = state g.S.Store c.bad_rows_of.new.conn in
    let over = c.requires.has in
    let first = c.loop-table.invariant.0 over.schema over.tabled in
    let second = c.in_err-rows.ensures.rested over.schema first.tabled in
    let was : HasCleanDisk mid = omega (arith, second.follows.lasts.clean, clean) in
    fails_as c.from_residual.result _ _ c.from_residual.ensures.1 (λ failed.
    cause_over old mid new first.follows.lasts was second.follows.lasts (c.in_err-rows.ensures.cause clean failed))

pub returns-in_err-add-clause-cause : goal.returns-in_err-add-clause-cause
returns-in_err-add-clause-cause g c clean =
    fails_as c.from_residual-in_err-add.result _ _ c.from_residual-in_err-add.ensures.1
    (λ failed. absurd (c.in_err-add.ensures.cause failed))
