use Rattle.std.proofs.lemmas.Result.{IfOk-weaker}
use Rattle.sqlite.specs.Held.{state}
use Rattle.hall_sql.specs.Rows.{world_of}
use Rattle.hall_sql.proofs.PlaceListings.{using_told}
use Rattle.hall_sql.proofs.ReadLemmas.{answers_so, refused_as}
use Rattle.hall_sql.proofs.rounds.rounds_using.Goals as goal

pub returns : goal.returns
returns g c =
    let world = world_of (state g.S.Store c.places_with.new.conn).now.trees in
    answers_so c.rounds_of.result _ c.in_ok-places.ensures
    (λ clean told. IfOk-weaker c.rounds_of.result _ _
    (λ ids is. using_told world c.args.key.now c.in_ok-places.places.items told ids.items is) c.rounds_of.ensures.ids)
    c.rounds_of.ensures.memory

pub returns-in_err-places : goal.returns-in_err-places
returns-in_err-places g c = refused_as c.from_residual.result _ c.in_err-places.ensures c.from_residual.ensures.1
