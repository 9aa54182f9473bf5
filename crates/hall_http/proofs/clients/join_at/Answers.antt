use Rattle.std.proofs.Common.{subst, sym, Option}
use Rattle.hall_http.specs.Group.{JoinsAt}
use Rattle.hall_http.specs.declared.client.Client.{Client}
use Rattle.hall_http.proofs.Rested.{rests_never}
use Rattle.hall_http.proofs.clients.join_at.Goals as goal

pub returns-in-None-clause-rests : goal.returns-in-None-clause-rests
returns-in-None-clause-rests g c = rests_never g.H.Responder.rests _

pub returns-in-None-clause-joined : goal.returns-in-None-clause-joined
returns-in-None-clause-joined g c = λ xs have. have

pub returns-in-Some-clause-joined : goal.returns-in-Some-clause-joined
returns-in-Some-clause-joined g c = λ xs have.
    subst
    (λ (o : Option (Client g.row.P.Denot)).
    JoinsAt g.H.Responder.have_joined xs o c.args.moment c.join.result c.join.new.joint c.join.new.responder)
    (sym c.in-Some.is) (c.join.ensures.joined xs have)
