use Rattle.std.proofs.Common.{ap}
use Rattle.hall_http.specs.Peer.{Traffic}
use Rattle.hall_http.proofs.Peers.{client_hung_up, later_hung_up, was_told}
use Rattle.hall_http.proofs.client.Client.hang_up.Goals as goal

pub returns-then-self-clause-hung_up : goal.returns-then-self-clause-hung_up
returns-then-self-clause-hung_up g c =
    was_told g.P.Peer.traffic _ _ _ _ c.requires.kept.0 c.requires.kept.1 c.if-self.true

pub returns-clause-hung_up : goal.returns-clause-hung_up
returns-clause-hung_up g c = ap (λ (t : Traffic). t.hung_up) c.end_sending.ensures

pub returns-clause-kept : goal.returns-clause-kept
returns-clause-kept g c = record {
  later = later_hung_up _ _ c.end_sending.ensures;
  kept = λ xs is.
      client_hung_up g.P.Peer.traffic _ _ _ _ xs is c.args.self.now.connection _ c.requires.at.0 c.requires.at.1
      c.end_sending.ensures;
}
