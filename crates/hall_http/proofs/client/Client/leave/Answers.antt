use Rattle.std.proofs.Common.{inr}
use Rattle.hall_http.proofs.Going.{goes_from, goes_over}
use Rattle.hall_http.proofs.Peers.{kept_then}
use Rattle.hall_http.proofs.client.Client.leave.Goals as goal

pub returns-then-self-clause-moved : goal.returns-then-self-clause-moved
returns-then-self-clause-moved g c =
    let still = c.hang_up.ensures.kept.kept c.requires.kept.0 c.requires.kept.1 in
    (c.hang_up.ensures.kept, inr (c.hang_up.ensures.hung_up, still.read_over c.if-self.true), tt)

pub returns-clause-moved : goal.returns-clause-moved
returns-clause-moved g c = (
  kept_then g.P.Peer.traffic _ _ _ c.hang_up.ensures.kept c.read_off.ensures.moved.0,
  c.read_off.ensures.moved.1,
  c.read_off.ensures.moved.2,
)

pub returns-clause-goes : goal.returns-clause-goes
returns-clause-goes g c =
    goes_from g.P.Peer.traffic 1 _ _ _ _ c.hang_up.ensures.connection c.hang_up.ensures.calls c.read_off.ensures.goes

pub returns-then-self-clause-goes : goal.returns-then-self-clause-goes
returns-then-self-clause-goes g c =
    goes_over g.P.Peer.traffic _ _ c.requires.at.0 c.requires.at.1 c.hang_up.ensures.connection c.hang_up.ensures.calls
