use Rattle.std.proofs.Common.{inl, inr}
use Rattle.sqlite.specs.Held.{state}
use Rattle.hall_store.specs.declared.change.Change.TheVariants.{PutRound}
use Rattle.hall_sql.specs.Inside.{Changes}
use Rattle.hall_sql.specs.RoundPuts.{PutsHead, PutsList, PutsTesterList, PutsRows}
use Rattle.hall_store.proofs.Knowing.{fails_as}
use Rattle.hall_sql.proofs.InsideLemmas.{three_did}
use Rattle.hall_sql.proofs.LastLemmas.{last_then}
use Rattle.hall_sql.proofs.RoundPutLemmas.{round_put, rows_put}
use Rattle.hall_sql.proofs.WriteCauseLemmas.{fails_first, then_cause, then_fails}
use Rattle.hall_sql.proofs.round_writes.put_inside.Goals as goal

pub returns-clause-done : goal.returns-clause-done
returns-clause-done g c =
    let row = c.args.row.now in
    three_did (PutsHead row.round) (PutsList row.round.id row.puzzles) (PutsTesterList row.round.id row.testers)
    (Changes (PutRound row)) c.put_tester_list.result _ _ _ _
    (λ mid. round_put row _ mid _ _) c.put_list.ensures.carries.lasts c.put_tester_list.ensures.carries.lasts
    c.in_ok-put_head.ensures.done
    (rw (c.as_slice.ensures.value) at c.in_ok-put_list.ensures.done)
    (rw (c.as_slice-2.ensures.value) at c.put_tester_list.ensures.done)

pub returns-clause-rows : goal.returns-clause-rows
returns-clause-rows g c =
    let row = c.args.row.now in
    three_did (PutsHead row.round) (PutsList row.round.id row.puzzles) (PutsTesterList row.round.id row.testers)
    (PutsRows row) c.put_tester_list.result _ _ _ _
    (λ mid. rows_put row _ mid _ _) c.put_list.ensures.carries.lasts c.put_tester_list.ensures.carries.lasts
    c.in_ok-put_head.ensures.done
    (rw (c.as_slice.ensures.value) at c.in_ok-put_list.ensures.done)
    (rw (c.as_slice-2.ensures.value) at c.put_tester_list.ensures.done)

pub returns-in_err-put_head-clause-cause : goal.returns-in_err-put_head-clause-cause
returns-in_err-put_head-clause-cause g c clean goes =
    fails_first _ c.from_residual.result _ c.from_residual.ensures.1 (c.in_err-put_head.ensures.cause clean goes)

pub returns-in_err-put_list-clause-cause : goal.returns-in_err-put_list-clause-cause
returns-in_err-put_list-clause-cause g c clean goes =
    let headed = state g.S.Store c.put_head.new.tx.conn.now in
    fails_as c.from_residual-in_err-put_list.result _ _ c.from_residual-in_err-put_list.ensures.1 (λ failed.
    then_cause (PutsHead c.args.row.now.round) (state g.S.Store c.args.tx.now.conn.now) headed
    (state g.S.Store c.put_list.new.tx.conn.now)
    c.put_head.ensures.carries.lasts c.put_list.ensures.carries.lasts c.in_ok-put_head.ensures.done
    (λ hall puts refused. inr (record { headed = headed.now; hall = hall; puts = puts; refused = inl refused })) clean
    goes
    (λ on. (rw (c.as_slice.ensures.value) at c.in_err-put_list.ensures.cause) clean on failed))

pub returns-clause-cause : goal.returns-clause-cause
returns-clause-cause g c =
    let row = c.args.row.now in
    let headed = state g.S.Store c.put_head.new.tx.conn.now in
    let listed = state g.S.Store c.put_list.new.tx.conn.now in
    let new = state g.S.Store c.put_tester_list.new.tx.conn.now in
    let to_listed = c.put_list.ensures.carries.lasts in
    let to_new = c.put_tester_list.ensures.carries.lasts in
    then_fails (PutsHead row.round) (state g.S.Store c.args.tx.now.conn.now) headed new c.put_head.ensures.carries.lasts
    (last_then headed listed new to_listed to_new) c.in_ok-put_head.ensures.done
    (λ hall puts refused. inr (record { headed = headed.now; hall = hall; puts = puts; refused = inr refused }))
    c.put_tester_list.result
    (then_fails (PutsList row.round.id row.puzzles) headed listed new to_listed to_new
    (rw (c.as_slice.ensures.value) at c.in_ok-put_list.ensures.done)
    (λ hall puts refused. record { listed = listed.now; hall = hall; puts = puts; refused = refused })
    c.put_tester_list.result
    (rw (c.as_slice-2.ensures.value) at c.put_tester_list.ensures.cause))
