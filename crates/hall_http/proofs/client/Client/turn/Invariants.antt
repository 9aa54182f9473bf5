use Rattle.hall_http.proofs.Going.{HasGone}
use Rattle.hall_http.specs.Resting.{HasRested}
use Rattle.hall_http.specs.Turns.{IsClientKept}
use Rattle.hall_http.proofs.client.Client.turn.Given as goal

abbrev pub invariant-loop-step : goal.invariant-loop-step
invariant-loop-step g l = record {
  kept : IsClientKept g.P.Peer.traffic l.fn.self l.self;
  rests : HasRested g.H.Responder.rests l.fn.responder l.responder;
  goes : HasGone g.P.Peer.traffic l._step l.fn.self l.self;
}
