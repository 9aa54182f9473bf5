use Rattle.hall_http.proofs.Peers.{client_new}
use Rattle.hall_http.proofs.client.Client.new.Goals as goal

pub returns-clause-kept : goal.returns-clause-kept
returns-clause-kept g c =
    client_new g.P.Peer.traffic c.new.result c.args.peer c.new.ensures c.requires
