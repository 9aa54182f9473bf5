use Rattle.std.proofs.Common.{refl, inl, inr, subst}
use Rattle.std.proofs.lemmas.Option.{same_Some}
use Rattle.hall_http.specs.Progress.{TakesTurn}
use Rattle.hall_http.specs.Steps.{StandsRightly}
use Rattle.hall_http.specs.Turns.{IsOverRightly}
use Rattle.hall_http.specs.declared.client.Client.{Client}
use Rattle.hall_http.proofs.Rested.{rests_never}
use Rattle.hall_http.proofs.clients.turn_at.Goals as goal

pub returns-in-Some-clause-kept : goal.returns-in-Some-clause-kept
returns-in-Some-clause-kept g c = inr (c.in-Some.client, c.turn.new.self, c.in-Some.is, refl, c.turn.ensures.kept)

pub returns-in-Some-clause-over : goal.returns-in-Some-clause-over
returns-in-Some-clause-over g c = λ k is.
    subst (λ (k : Client g.row.P.Denot). IsOverRightly c.turn.result (g.P.Peer.traffic k.peer)) (same_Some _ _ is)
    c.turn.ensures.over

pub returns-in-Some-clause-stands : goal.returns-in-Some-clause-stands
returns-in-Some-clause-stands g c = λ k is.
    subst
    (λ (k : Client g.row.P.Denot).
    StandsRightly g.H.Responder.may_wait k.connection c.turn.new.responder c.turn.result)
    (same_Some _ _ is) c.turn.ensures.stands

pub returns-in-Some-clause-none : goal.returns-in-Some-clause-none
returns-in-Some-clause-none g c = λ none. let clash = none in absurd cc

pub returns-in-Some-clause-takes : goal.returns-in-Some-clause-takes
returns-in-Some-clause-takes g c = λ l is. (
  c.in-Some.client,
  c.in-Some.is,
  subst (λ (l : Client g.row.P.Denot). TakesTurn g.P.Peer.traffic c.in-Some.client c.turn.result l) (same_Some _ _ is)
      c.turn.ensures.takes,
)

pub returns-in-None-clause-rests : goal.returns-in-None-clause-rests
returns-in-None-clause-rests g c = rests_never g.H.Responder.rests _
