use Rattle.std.proofs.Common.{inr}
use Rattle.sqlite.specs.Held.{state}
use Rattle.hall_sql.specs.RoundPuts.{DropsPlaces, PutsPlaces, PutsList}
use Rattle.hall_sql.proofs.InsideLemmas.{two_did}
use Rattle.hall_sql.proofs.PlaceWrites.{list_put}
use Rattle.hall_sql.proofs.WriteCauseLemmas.{fails_first, then_fails}
use Rattle.hall_sql.proofs.round_writes.put_list.Goals as goal

pub returns-clause-done : goal.returns-clause-done
returns-clause-done g c =
    let id = c.args.id.now in
    let items = c.args.entries.now in
    two_did (DropsPlaces id) (PutsPlaces id items) (PutsList id items) c.put_places.result _ _ _
    (list_put id items _ _ _)
    c.put_places.ensures.carries.lasts c.in_ok-drop_places.ensures.done c.put_places.ensures.done

pub returns-in_err-drop_places-clause-cause : goal.returns-in_err-drop_places-clause-cause
returns-in_err-drop_places-clause-cause g c clean goes =
    fails_first _ c.from_residual.result _ c.from_residual.ensures.1 (c.in_err-drop_places.ensures.cause clean goes)

pub returns-clause-cause : goal.returns-clause-cause
returns-clause-cause g c =
    let bare = state g.S.Store c.drop_places.new.tx.conn.now in
    then_fails (DropsPlaces c.args.id.now) (state g.S.Store c.args.tx.now.conn.now) bare
    (state g.S.Store c.put_places.new.tx.conn.now)
    c.drop_places.ensures.carries.lasts c.put_places.ensures.carries.lasts c.in_ok-drop_places.ensures.done
    (λ hall drops refused. inr (record { bare = bare.now; hall = hall; drops = drops; refused = refused }))
    c.put_places.result c.put_places.ensures.cause
