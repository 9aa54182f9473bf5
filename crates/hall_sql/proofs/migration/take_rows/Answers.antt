use Rattle.std.proofs.Common.{inl, IsTrue, subst}
use Rattle.sqlite.specs.Held.{state}
use Rattle.sqlite.specs.State.{HasCleanDisk}
use Rattle.hall_sql.specs.declared.migration.Found.{Found}
use Rattle.hall_sql.specs.Migrate.{IsFoundBeside}
use Rattle.hall_sql.specs.Rows.{world_of}
use Rattle.hall_sql.proofs.MigrationLemmas.{found_bare, had_taken, is_left, leaves_after, leaves_leads, rested_stops}
use Rattle.hall_sql.proofs.MigrationLemmas.{stops_after, take_fails}
use Rattle.hall_store.proofs.Knowing.{fails_as}
use Rattle.hall_sql.proofs.migration.take_rows.Goals as goal

pub returns-in-These-clause-takes : goal.returns-in-These-clause-takes
returns-in-These-clause-takes g c world own bare =
    let s0 = state g.T.Store c.args.conn.now in
    let s1 = state g.T.Store c.compare.new.conn in
    let it = c.in_ok-compare.ensures in
    let told = subst (λ (f : Found). HasCleanDisk s1 → IsTrue s1.is_open
    × IsFoundBeside c.args.rows.now (world_of s1.now.trees) f)
    c.in-These.is it.served in
    had_taken s0 s1 world it.rested (λ clean. ((told clean).0, (told clean).1 world own bare)) it.whole

pub returns-in-Others-clause-takes : goal.returns-in-Others-clause-takes
returns-in-Others-clause-takes g c world own bare =
    let s0 = state g.T.Store c.args.conn.now in
    let s1 = state g.T.Store c.compare.new.conn in
    let it = c.in_ok-compare.ensures in
    let told = subst (λ (f : Found). HasCleanDisk s1 → IsTrue s1.is_open
    × IsFoundBeside c.args.rows.now (world_of s1.now.trees) f)
    c.in-Others.is it.served in
    is_left s0 s1 world it.rested
    (λ clean. ((told clean).0, ((told clean).1.0, (told clean).1.1 world own bare))) it.whole

pub fill_counted-requires-clause-nothing : goal.fill_counted-requires-clause-nothing
fill_counted-requires-clause-nothing g c =
    let s0 = state g.T.Store c.args.conn.now in
    let s1 = state g.T.Store c.compare.new.conn in
    let it = c.in_ok-compare.ensures in
    let told = subst (λ (f : Found). HasCleanDisk s1 → IsTrue s1.is_open
    × IsFoundBeside c.args.rows.now (world_of s1.now.trees) f)
    c.in-Nothing.is it.served in
    found_bare s0 s1 it.rested told it.whole

pub returns-in-These-clause-stops : goal.returns-in-These-clause-stops
returns-in-These-clause-stops g c world own bare = rested_stops (state g.T.Store c.args.conn.now)
    (state g.T.Store c.compare.new.conn) world c.in_ok-compare.ensures.rested

pub returns-in-Others-clause-stops : goal.returns-in-Others-clause-stops
returns-in-Others-clause-stops g c world own bare = rested_stops (state g.T.Store c.args.conn.now)
    (state g.T.Store c.compare.new.conn) world c.in_ok-compare.ensures.rested

pub returns-in-Nothing-clause-stops : goal.returns-in-Nothing-clause-stops
returns-in-Nothing-clause-stops g c world own bare =
    let s0 = state g.T.Store c.args.conn.now in
    let s1 = state g.T.Store c.compare.new.conn in
    let s2 = state g.T.Store c.fill_counted.new.conn in
    let it = c.in_ok-compare.ensures in
    let told = subst (λ (f : Found). HasCleanDisk s1 → IsTrue s1.is_open
    × IsFoundBeside c.args.rows.now (world_of s1.now.trees) f)
    c.in-Nothing.is it.served in
    stops_after s0 s1 s2 world it.rested (λ clean. (told clean).0)
    (leaves_leads s1 s2 c.fill_counted.result c.fill_counted.ensures.leaves)
    (c.fill_counted.ensures.stops world own bare)

pub returns-in-Nothing-clause-leaves : goal.returns-in-Nothing-clause-leaves
returns-in-Nothing-clause-leaves g c =
    leaves_after (state g.T.Store c.args.conn.now) (state g.T.Store c.compare.new.conn)
    (state g.T.Store c.fill_counted.new.conn) c.fill_counted.result
    c.in_ok-compare.ensures.rested c.fill_counted.ensures.leaves

pub returns-in_err-compare-clause-cause : goal.returns-in_err-compare-clause-cause
returns-in_err-compare-clause-cause g c clean =
    fails_as c.from_residual.result _ _ c.from_residual.ensures.1
    (λ failed. inl (c.in_err-compare.ensures.cause clean failed))

pub returns-in-Nothing-clause-cause : goal.returns-in-Nothing-clause-cause
returns-in-Nothing-clause-cause g c =
    let s0 = state g.T.Store c.args.conn.now in
    let s1 = state g.T.Store c.compare.new.conn in
    let s2 = state g.T.Store c.fill_counted.new.conn in
    let it = c.in_ok-compare.ensures in
    let told = subst (λ (f : Found). HasCleanDisk s1 → IsTrue s1.is_open
    × IsFoundBeside c.args.rows.now (world_of s1.now.trees) f)
    c.in-Nothing.is it.served in
    take_fails s0 s1 s2 c.args.rows.now c.fill_counted.result it.rested (λ clean. (told clean).0)
    (found_bare s0 s1 it.rested told it.whole)
    c.fill_counted.ensures.leaves c.fill_counted.ensures.cause
