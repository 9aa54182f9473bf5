use Rattle.std.proofs.Common.{inr, refl}
use Rattle.hall_http.proofs.Gated.{looks_at}
use Rattle.hall_http.proofs.connection.Connection.look.Goals as goal

pub returns-then-not-finds_request : goal.returns-then-not-finds_request
returns-then-not-finds_request g c = inr (refl, rw c.if-not-finds_request.true at c.finds_request.ensures)

pub returns : goal.returns
returns g c =
    let found = rw c.if-not-finds_request.false at c.finds_request.ensures in
    looks_at _ g.C.Clock.now_gives _ _ _ _ _ _ _ _ found.0 found.1 c.now-moment.ensures c.answer.ensures
