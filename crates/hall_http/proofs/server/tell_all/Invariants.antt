use Rattle.std.proofs.Common.{◌≡◌, ◌≢◌, ◌+◌, ℕ, length}
use Rattle.std.specs.Prelude.{All}
use Rattle.hall_http.specs.Crowd.{IsSameAt}
use Rattle.hall_http.proofs.Gathered.{TellsSoFar}
use Rattle.hall_http.proofs.server.tell_all.Given as goal

abbrev pub invariant-loop-member : goal.invariant-loop-member
invariant-loop-member g l = record {
  tells : TellsSoFar g.S.Peer.Peer.traffic l.fn.end l.fn.clients l.fn.members.items l.clients l.left.items;
  counted : l._member + length l.left.items ≡ length l.fn.members.items;
  others : (place : ℕ) → All (λ member. member.request.place ≢ place) l.fn.members.items
      → IsSameAt l.fn.clients l.clients place;
  said : g.S.Sockets.said l.sockets ≡ g.S.Sockets.said l.fn.sockets;
  fair : g.S.Sockets.is_fair l.fn.sockets → g.S.Sockets.is_fair l.sockets;
  gone : l.clients.gone ≡ l.fn.clients.gone;
  long : length l.clients.places.items ≡ length l.fn.clients.places.items;
}
