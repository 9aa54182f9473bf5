use Rattle.std.proofs.Common.{◌∙◌, ap, inl, inr, sym, true}
use Rattle.hall_http.specs.Turns.{service_of}
use Rattle.hall_http.specs.declared.connection.Connection.{Connection}
use Rattle.hall_http.proofs.Going.{none_whole}
use Rattle.hall_http.proofs.Peers.{answered_client, answered_none, answered_one, answered_sent}
use Rattle.hall_http.proofs.Rested.{rests_never, rests_still}
use Rattle.hall_http.proofs.client.Client.answer.Goals as goal

pub returns-in_default-clause-answered : goal.returns-in_default-clause-answered
returns-in_default-clause-answered g c = answered_none g.P.Peer.traffic
    (service_of g.H.Responder.answers g.H.Responder.joins g.H.Responder.goes_on g.H.Responder.rests
    g.H.Responder.may_wait) _ _ _ _
    (rests_never _ _)

pub returns-in-Waits-clause-answered : goal.returns-in-Waits-clause-answered
returns-in-Waits-clause-answered g c =
    answered_none g.P.Peer.traffic
    (service_of g.H.Responder.answers g.H.Responder.joins g.H.Responder.goes_on g.H.Responder.rests
    g.H.Responder.may_wait) _ _ _ _
    (rests_still g.H.Responder.rests _ _ true c.prepare-prepared.ensures.rests)

pub finish-requires : goal.finish-requires
finish-requires g c =
    answered_client g.P.Peer.traffic
    (service_of g.H.Responder.answers g.H.Responder.joins g.H.Responder.goes_on g.H.Responder.rests
    g.H.Responder.may_wait) _ _ _ _ _ c.requires
    (answered_one g.P.Peer.traffic
    (service_of g.H.Responder.answers g.H.Responder.joins g.H.Responder.goes_on g.H.Responder.rests
    g.H.Responder.may_wait) _ _ _ _ _ _ _ _ _
    (rests_still g.H.Responder.rests _ _ true c.prepare-prepared.ensures.rests) (sym c.state.ensures ∙ c.in-Looking.is)
    c.answer-goes_on.ensures)

pub returns-clause-answered : goal.returns-clause-answered
returns-clause-answered g c =
    answered_sent g.P.Peer.traffic
    (service_of g.H.Responder.answers g.H.Responder.joins g.H.Responder.goes_on g.H.Responder.rests
    g.H.Responder.may_wait) _ _ _ _ _ _
    (answered_one g.P.Peer.traffic
    (service_of g.H.Responder.answers g.H.Responder.joins g.H.Responder.goes_on g.H.Responder.rests
    g.H.Responder.may_wait) _ _ _ _ _ _ _ _ _
    (rests_still g.H.Responder.rests _ _ true c.prepare-prepared.ensures.rests) (sym c.state.ensures ∙ c.in-Looking.is)
    c.answer-goes_on.ensures) c.finish.ensures.kept

pub returns-in_default-clause-first : goal.returns-in_default-clause-first
returns-in_default-clause-first g c = λ at has. absurd (c.in_default.not-Looking (c.state.ensures ∙ at))

pub returns-in-Waits-clause-first : goal.returns-in-Waits-clause-first
returns-in-Waits-clause-first g c = λ at has. inr (c.prepare-prepared.ensures.waits c.in-Waits.is)

pub returns-clause-first : goal.returns-clause-first
returns-clause-first g c = λ at has.
    elim c.answer-goes_on.ensures [
      | inl a ↦ inl (c.finish.ensures.requests ∙ ap (λ (k : Connection). k.requests) a.left)
      | inr x ↦ absurd (none_whole c.args.self.now.connection.inbox has.0 x.2 has.1)
    ]
