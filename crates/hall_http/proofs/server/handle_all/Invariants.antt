use Rattle.std.proofs.Common.{◌≡◌, ◌<◌, length, true}
use Rattle.hall_http.specs.Coming.{AreAllHeard, since}
use Rattle.hall_http.specs.Crowd.{AreAsSaid, AreHandled, AreKeptAtTurns, AreReady, MayWaitAfter}
use Rattle.hall_http.specs.Turns.{service_of}
use Rattle.hall_http.proofs.Comings.{DoneSoFar}
use Rattle.hall_http.proofs.Holdings.{AreHeldSo}
use Rattle.hall_http.proofs.server.handle_all.Given as goal

abbrev pub invariant-loop-step : goal.invariant-loop-step
invariant-loop-step g l = record {
  so_far : AreHandled (service_of g.H.Responder.answers g.H.Responder.joins g.H.Responder.goes_on g.H.Responder.rests
      g.H.Responder.may_wait)
      (λ turns. AreKeptAtTurns (MayWaitAfter
      (service_of g.H.Responder.answers g.H.Responder.joins g.H.Responder.goes_on g.H.Responder.rests
      g.H.Responder.may_wait)
      (l.fn.responder, true) (l.responder, true) turns) g.S.Peer.Peer.traffic
      (g.S.Sockets.said l.fn.sockets) (g.S.Sockets.said l.sockets) turns l.clients
      × AreHeldSo g.S.Peer.Peer.traffic g.C.Clock.now_gives l.fn.clock (g.S.Sockets.said l.fn.sockets).heard
      (MayWaitAfter
      (service_of g.H.Responder.answers g.H.Responder.joins g.H.Responder.goes_on g.H.Responder.rests
      g.H.Responder.may_wait) (l.fn.responder, true) (l.responder, true) turns)
      (since (g.S.Sockets.said l.fn.sockets) (g.S.Sockets.said l.sockets)) (g.S.Sockets.said l.sockets).heard
      l.clients l.held l.clock turns)
      (l.fn.responder, true) (l.responder, true);
  ready : AreReady l.clients l.held;
  said : AreAsSaid g.S.Peer.Peer.traffic (since (g.S.Sockets.said l.fn.sockets) (g.S.Sockets.said l.sockets)) l.clients;
  fair : 0 < l._step → g.S.Sockets.is_fair l.sockets;
  heard : AreAllHeard (g.S.Sockets.said l.sockets);
  long : length l.clients.places.items ≡ 500;
  done : DoneSoFar g.S.Peer.Peer.traffic (g.S.Sockets.said l.fn.sockets) (g.S.Sockets.said l.sockets) l._step;
}
