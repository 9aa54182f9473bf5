use Rattle.std.proofs.Common.{◌≡◌, length}
use Rattle.hall_http.specs.Crowd.{AnswersNoMore}
use Rattle.hall_http.proofs.clients.Clients.finish.Given as goal

abbrev pub invariant-loop-place : goal.invariant-loop-place
invariant-loop-place g l = record {
  kept : AnswersNoMore g.P.Peer.traffic l.fn.self l.self;
  gone : l.self.gone ≡ l.fn.self.gone;
  long : length l.self.places.items ≡ length l.fn.self.places.items;
}
