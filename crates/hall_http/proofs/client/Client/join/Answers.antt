use Rattle.std.proofs.Common.{◌∙◌, sym}
use Rattle.hall_http.proofs.Gathered.{joins_at}
use Rattle.hall_http.proofs.Rested.{rests_never}
use Rattle.hall_http.proofs.client.Client.join.Goals as goal

pub returns-in_default-clause-rests : goal.returns-in_default-clause-rests
returns-in_default-clause-rests g c = rests_never g.H.Responder.rests _

pub returns-in_default-clause-joined : goal.returns-in_default-clause-joined
returns-in_default-clause-joined g c = λ xs have. have

pub returns-clause-joined : goal.returns-clause-joined
returns-clause-joined g c = λ xs have.
    joins_at g.H.Responder.have_joined xs c.args.self.now c.args.moment c.join.result _ _
    (sym c.state.ensures ∙ c.in-Looking.is) (c.join.ensures.joined xs have)
