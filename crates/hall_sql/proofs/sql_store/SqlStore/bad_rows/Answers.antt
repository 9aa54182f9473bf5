use Rattle.std.proofs.lemmas.Result.{IfOk-weaker}
use Rattle.std.proofs.Common.{IfOk, subst}
use Rattle.hall_store.specs.Store.{Fails}
use Rattle.sqlite.specs.Held.{state}
use Rattle.sqlite.specs.State.{HasCleanDisk}
use Rattle.hall_sql.specs.AllRead.{AreAllRead}
use Rattle.hall_sql.specs.BadRows.{AreNone, AreToldBad, HaveRoom}
use Rattle.hall_sql.specs.CanFail.{StoreCanFail}
use Rattle.hall_sql.specs.Cause.{IsStoreCause}
use Rattle.hall_sql.specs.Made.{all_tables}
use Rattle.hall_sql.specs.Tables.{hall_schema}
use Rattle.hall_sql.proofs.StoreLemmas.{rested_hall}
use Rattle.hall_sql.proofs.BadRowLemmas.{none_in_hall, room_if_none}
use Rattle.hall_sql.proofs.FailLemmas.{store_fault}
use Rattle.hall_sql.proofs.sql_store.SqlStore.bad_rows.Goals as goal

pub invariant_of-self : goal.invariant_of-self
invariant_of-self g c = (rested_hall c.self.invariant c.bad_rows.ensures.rested).tabled

pub returns-clause-rested : goal.returns-clause-rested
returns-clause-rested g c = rw (← c.self.view_is) (rested_hall c.self.invariant c.bad_rows.ensures.rested)

pub returns-clause-bad : goal.returns-clause-bad
returns-clause-bad g c =
    let new = state g.S.Store c.bad_rows.new.conn in
    subst (λ s. HasCleanDisk new → IfOk c.bad_rows.result (λ bad. AreToldBad all_tables (state g.S.Store s) new
    bad.items)) c.self.view_is
    c.bad_rows.ensures.bad

pub returns-clause-whole : goal.returns-clause-whole
returns-clause-whole g c =
    let new = state g.S.Store c.bad_rows.new.conn in
    subst (λ s. HasCleanDisk new → IfOk c.bad_rows.result (λ bad. AreNone bad.items
    → AreAllRead hall_schema (state g.S.Store s).now.trees)) c.self.view_is
    (λ clean. IfOk-weaker c.bad_rows.result _ _ (λ bad told none. none_in_hall _ bad.items told.1 none)
    (c.bad_rows.ensures.bad clean))

pub returns-clause-room : goal.returns-clause-room
returns-clause-room g c =
    let new = state g.S.Store c.bad_rows.new.conn in
    subst (λ s. HasCleanDisk new → IfOk c.bad_rows.result (λ bad. AreNone bad.items
    → HaveRoom all_tables (state g.S.Store s).now.trees)) c.self.view_is
    (λ clean. IfOk-weaker c.bad_rows.result _ _ (λ bad told none. room_if_none all_tables _ bad.items told.1 none)
    (c.bad_rows.ensures.bad clean))

pub returns-clause-fault : goal.returns-clause-fault
returns-clause-fault g c =
    let new = state g.S.Store c.bad_rows.new.conn in
    subst (λ s. Fails (StoreCanFail (state g.S.Store s) new) c.bad_rows.result) c.self.view_is
    (store_fault c.bad_rows.result _ new (rested_hall c.self.invariant c.bad_rows.ensures.rested)
    c.bad_rows.ensures.cause)

pub returns-clause-cause : goal.returns-clause-cause
returns-clause-cause g c =
    let new = state g.S.Store c.bad_rows.new.conn in
    subst (λ s. HasCleanDisk new → Fails (IsStoreCause (state g.S.Store s) new) c.bad_rows.result) c.self.view_is
    c.bad_rows.ensures.cause
