use Rattle.hall_http.proofs.responder.DeskResponder.join.Goals as goal

pub returns-in-Some-clause-joined : goal.returns-in-Some-clause-joined
returns-in-Some-clause-joined g c = λ xs bytes lent joined.
    rw c.in-Some.is (c.join_raw_request.ensures.joined xs bytes lent joined)
