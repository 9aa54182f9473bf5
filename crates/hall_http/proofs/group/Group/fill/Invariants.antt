use Rattle.std.proofs.Common.{◌≡◌, ◌≤◌, ◌++◌, length}
use Rattle.std.specs.Prelude.{vec_capacity}
use Rattle.hall_http.specs.Group.{IsGathered, requests_of}
use Rattle.hall_http.specs.Resting.{HasRested}
use Rattle.hall_http.proofs.group.Group.fill.Given as goal

abbrev pub invariant-loop-member : goal.invariant-loop-member
invariant-loop-member g l = record {
  gathered : IsGathered g.H.Responder.have_joined l.fn.clients l.self l.responder;
  room : 64 ≤ vec_capacity l.self.members;
  few : length l.self.members.items ≤ l._member;
  rests : HasRested g.H.Responder.rests l.fn.responder l.responder;
  order : l.fn.held ≡ requests_of l.self.members.items ++ l.held;
}
