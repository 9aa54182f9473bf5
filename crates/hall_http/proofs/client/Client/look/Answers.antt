use Rattle.hall_http.proofs.Going.{goes_held, goes_looked, goes_searching}
use Rattle.hall_http.proofs.Peers.{kept_looked, kept_same}
use Rattle.hall_http.proofs.client.Client.look.Goals as goal

pub returns-in-Waits-clause-kept : goal.returns-in-Waits-clause-kept
returns-in-Waits-clause-kept g c = kept_same g.P.Peer.traffic _

pub returns-in-Waits-clause-goes : goal.returns-in-Waits-clause-goes
returns-in-Waits-clause-goes g c = goes_searching g.P.Peer.traffic _ _ _ _ _

pub returns-then-finds_request-clause-kept : goal.returns-then-finds_request-clause-kept
returns-then-finds_request-clause-kept g c =
    let found = rw c.if-finds_request.true at c.finds_request.ensures in
    rw found.0 (kept_same g.P.Peer.traffic _)

pub returns-then-finds_request-clause-stands : goal.returns-then-finds_request-clause-stands
returns-then-finds_request-clause-stands g c =
    let found = rw c.if-finds_request.true at c.finds_request.ensures in
    rw found.0 (c.requires.at, found.1)

pub returns-then-finds_request-clause-goes : goal.returns-then-finds_request-clause-goes
returns-then-finds_request-clause-goes g c =
    let found = rw c.if-finds_request.true at c.finds_request.ensures in
    goes_held g.P.Peer.traffic _ _ _ _ _ found.0

pub returns-else-finds_request-clause-kept : goal.returns-else-finds_request-clause-kept
returns-else-finds_request-clause-kept g c =
    kept_looked g.P.Peer.traffic _ _ _ _ _ c.requires.at (rw c.if-finds_request.false at c.finds_request.ensures)

pub returns-else-finds_request-clause-goes : goal.returns-else-finds_request-clause-goes
returns-else-finds_request-clause-goes g c =
    goes_looked g.P.Peer.traffic _ _ _ _ _ c.requires.at (rw c.if-finds_request.false at c.finds_request.ensures)
