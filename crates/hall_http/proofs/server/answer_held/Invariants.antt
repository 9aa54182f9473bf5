use Rattle.std.proofs.Common.{◌≡◌, ◌≢◌, ◌<◌, ◌≤◌, ◌++◌, length, List, [], true}
use Rattle.std.specs.Prelude.{All}
use Rattle.hall_http.specs.Crowd.{IsSameAt, Serves}
use Rattle.hall_http.specs.Turns.{service_of}
use Rattle.hall_http.specs.declared.clients.HeldRequest.{HeldRequest}
use Rattle.hall_http.proofs.server.answer_held.Given as goal

abbrev pub invariant-loop-one : goal.invariant-loop-one
invariant-loop-one g l = record {
  serves : (front : List HeldRequest) × (l.fn.held ≡ front ++ l.held) × ((0 < l._one → front ≢ []) × (length front ≤ l._one))
      × Serves (service_of g.H.Responder.answers g.H.Responder.joins g.H.Responder.goes_on g.H.Responder.rests
      g.H.Responder.may_wait) g.S.Peer.Peer.traffic front
      (l.fn.responder, true) l.fn.clients (l.responder, true) l.clients;
  same : All (λ one. IsSameAt l.fn.clients l.clients one.place) l.held;
  said : g.S.Sockets.said l.sockets ≡ g.S.Sockets.said l.fn.sockets;
  fair : g.S.Sockets.is_fair l.fn.sockets → g.S.Sockets.is_fair l.sockets;
  gone : l.clients.gone ≡ l.fn.clients.gone;
  long : length l.clients.places.items ≡ length l.fn.clients.places.items;
}
