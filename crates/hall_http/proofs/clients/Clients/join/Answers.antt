use Rattle.std.proofs.Common.{arith, ◌<◌, length, refl, subst, sym, Option}
use Rattle.hall_http.specs.Group.{JoinsAt}
use Rattle.hall_http.specs.declared.client.Client.{Client}
use Rattle.hall_http.proofs.Numbers.{read_at}
use Rattle.hall_http.proofs.Rested.{rests_never}
use Rattle.hall_http.proofs.clients.Clients.join.Goals as goal

pub returns-then-held-len-clause-rests : goal.returns-then-held-len-clause-rests
returns-then-held-len-clause-rests g c = rests_never g.H.Responder.rests _

pub returns-then-held-len-clause-joined : goal.returns-then-held-len-clause-joined
returns-then-held-len-clause-joined g c = λ xs have. have

pub returns-clause-joined : goal.returns-clause-joined
returns-clause-joined g c =
    let inside : c.args.held.now.place < length c.args.self.now.places.items =
    omega (arith, c.if-held-len.false, c.len.ensures, c.args.self.now.places.ok.0) in
    λ xs have.
    subst
    (λ (o : Option (Client g.row.P.Denot)).
    JoinsAt g.H.Responder.have_joined xs o c.args.held.now.moment c.join_at.result c.join_at.new.joint
    c.join_at.new.responder)
    (sym
    (read_at c.args.self.now.places.items c.args.held.now.place c.index-place.result.now _ inside
    c.index-place.ensures refl)) (c.join_at.ensures.joined xs have)
