use Rattle.std.proofs.Common.{◌≡◌, length}
use Rattle.hall_http.specs.Crowd.{AllLeave, AnswersNoMore}
use Rattle.hall_http.proofs.Numbers.{AreFreed}
use Rattle.hall_http.proofs.clients.Clients.close.Given as goal

abbrev pub invariant-loop-place : goal.invariant-loop-place
invariant-loop-place g l = record {
  long : length l.self.places.items ≡ length l.fn.self.places.items;
  freed : AreFreed l.self.places.items l.place;
  kept : AnswersNoMore g.P.Peer.traffic l.fn.self l.self;
  left : AllLeave g.P.Peer.traffic l.fn.self l.self;
}
