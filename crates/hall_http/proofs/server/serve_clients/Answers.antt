use Rattle.hall_desk.specs.Desk.{kept_by}
use Rattle.hall_http.proofs.Serving.{all_gone, crowd_sane, crowd_those, crowd_turned}
use Rattle.hall_http.proofs.server.serve_clients.Goals as goal

pub returns-clause-served : goal.returns-clause-served
returns-clause-served g c =
    crowd_turned kept_by g.S.ReadStore.content g.C.Clock.now_gives g.N.Peer.Peer.traffic
    (g.N.Sockets.said c.args.sockets.now) (g.N.Sockets.said c.handle_all-end.new.sockets) _ _ _ _ _ _ _
    c.handle_all-end.ensures.handled c.close.ensures.kept c.close.ensures.none c.at_rest.ensures c.close.ensures.left

pub returns-clause-ended : goal.returns-clause-ended
returns-clause-ended g c = record {
  over = c.handle_all-end.ensures.over;
  done = c.handle_all-end.ensures.done;
  those = crowd_those kept_by g.S.ReadStore.content g.C.Clock.now_gives g.N.Peer.Peer.traffic
      (g.N.Sockets.said c.args.sockets.now) (g.N.Sockets.said c.handle_all-end.new.sockets) _ _ _ _ _ _ _
      c.handle_all-end.ensures.handled c.close.ensures.kept c.close.ensures.none;
  ways = all_gone g.N.Peer.Peer.traffic _ c.handle_all-end.new.clients c.close.new.self c.handle_all-end.ensures.said
      c.close.ensures.left;
}

pub returns-clause-sane : goal.returns-clause-sane
returns-clause-sane g c =
    crowd_sane kept_by g.S.ReadStore.content g.C.Clock.now_gives g.N.Peer.Peer.traffic
    (g.N.Sockets.said c.args.sockets.now) (g.N.Sockets.said c.handle_all-end.new.sockets) _ _ _ _ _ _ _
    c.handle_all-end.ensures.handled c.close.ensures.kept c.close.ensures.none
