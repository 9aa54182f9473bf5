use Rattle.std.proofs.Common.{◌∙◌, refl, sym, true, false}
use Rattle.hall_http.specs.Group.{exchanges_at, requests_of}
use Rattle.hall_http.specs.Turns.{service_of}
use Rattle.hall_http.proofs.Gathered.{serves_together, some_answered}
use Rattle.hall_http.proofs.Heard.{serves_kept, serves_then}
use Rattle.hall_http.proofs.server.answer_together.Goals as goal

pub tell_all-requires-clause-waiting : goal.tell_all-requires-clause-waiting
tell_all-requires-clause-waiting g c = c.requires.gathered.waiting

pub finish-requires : goal.finish-requires
finish-requires g c = serves_kept _ g.S.Peer.Peer.traffic _ _ _ _ _ c.requires.kept c.tell_all.ensures.serves

pub returns-then-goes_on-clause-serves : goal.returns-then-goes_on-clause-serves
returns-then-goes_on-clause-serves g c =
    let members = c.args.group.members.items in
    let s = c.args.clients.now in
    serves_together
    (service_of g.H.Responder.answers g.H.Responder.joins g.H.Responder.goes_on g.H.Responder.rests
    g.H.Responder.may_wait)
    g.S.Peer.Peer.traffic (requests_of members) _ _ _ s _
    (c.store_joined-end.ensures (exchanges_at s members) true (some_answered s members c.requires.some)
    c.requires.gathered.joined (λ shut. absurd (c.goes_on.ensures.opened c.if-goes_on.true shut)) (λ on. refl))
    c.tell_all.ensures.serves

pub returns-clause-serves : goal.returns-clause-serves
returns-clause-serves g c =
    let members = c.args.group.members.items in
    let s = c.args.clients.now in
    serves_then _ g.S.Peer.Peer.traffic (requests_of members) _ _ s _ _
    (serves_together
    (service_of g.H.Responder.answers g.H.Responder.joins g.H.Responder.goes_on g.H.Responder.rests
    g.H.Responder.may_wait)
    g.S.Peer.Peer.traffic (requests_of members) _ _ _ s _
    (c.store_joined-end.ensures (exchanges_at s members) false (some_answered s members c.requires.some)
    c.requires.gathered.joined (λ shut. refl) (λ on. absurd (on (c.goes_on.ensures.shut c.if-goes_on.false))))
    c.tell_all.ensures.serves) c.finish.ensures.kept

pub returns-then-goes_on-clause-others : goal.returns-then-goes_on-clause-others
returns-then-goes_on-clause-others g c = λ on place differs. c.tell_all.ensures.others place differs

pub returns-clause-others : goal.returns-clause-others
returns-clause-others g c = λ on. absurd cc

pub returns-clause-gone : goal.returns-clause-gone
returns-clause-gone g c = c.finish.ensures.gone ∙ c.tell_all.ensures.gone

pub returns-clause-long : goal.returns-clause-long
returns-clause-long g c = c.finish.ensures.long ∙ c.tell_all.ensures.long
