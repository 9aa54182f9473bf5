use Rattle.std.proofs.Common.{inr}
use Rattle.sqlite.specs.Held.{state}
use Rattle.hall_sql.specs.RoundPuts.{DropsTesters, PutsTesters, PutsTesterList}
use Rattle.hall_sql.proofs.InsideLemmas.{two_did}
use Rattle.hall_sql.proofs.TesterWrites.{tester_list_put}
use Rattle.hall_sql.proofs.WriteCauseLemmas.{fails_first, then_fails}
use Rattle.hall_sql.proofs.testers.put_tester_list.Goals as goal

pub returns-clause-done : goal.returns-clause-done
returns-clause-done g c =
    let id = c.args.round.now in
    let items = c.args.names.now in
    two_did (DropsTesters id) (PutsTesters id items) (PutsTesterList id items) c.put_testers.result _ _ _
    (tester_list_put id items _ _ _)
    c.put_testers.ensures.carries.lasts c.in_ok-drop_testers.ensures.done c.put_testers.ensures.done

pub returns-in_err-drop_testers-clause-cause : goal.returns-in_err-drop_testers-clause-cause
returns-in_err-drop_testers-clause-cause g c clean goes =
    fails_first _ c.from_residual.result _ c.from_residual.ensures.1 (c.in_err-drop_testers.ensures.cause clean goes)

pub returns-clause-cause : goal.returns-clause-cause
returns-clause-cause g c =
    let bare = state g.S.Store c.drop_testers.new.tx.conn.now in
    then_fails (DropsTesters c.args.round.now) (state g.S.Store c.args.tx.now.conn.now) bare
    (state g.S.Store c.put_testers.new.tx.conn.now)
    c.drop_testers.ensures.carries.lasts c.put_testers.ensures.carries.lasts c.in_ok-drop_testers.ensures.done
    (λ hall drops refused. inr (record { bare = bare.now; hall = hall; drops = drops; refused = refused }))
    c.put_testers.result c.put_testers.ensures.cause
