use Rattle.std.proofs.Common.{◌∙◌, arith, ap, refl, sym, subst, List, [], ◌∷◌, length}
use Rattle.std.proofs.lemmas.List.{nil_from_length}
use Rattle.hall_http.specs.Crowd.{AreSomeKept}
use Rattle.hall_http.specs.Group.{recording}
use Rattle.hall_http.specs.declared.group.Member.{Member}
use Rattle.hall_http.proofs.Gathered.{TellsSoFar, next_waits, tells_all, tells_more, tells_none, tells_others}
use Rattle.hall_http.proofs.Heard.{serves_kept}
use Rattle.hall_http.proofs.server.tell_all.Goals as goal

pub loop-member-init : goal.loop-member-init
loop-member-init g c = record {
  tells = tells_none g.S.Peer.Peer.traffic c.args.end c.args.clients.now c.args.members.items c.requires.waiting;
  counted = omega arith;
  others = λ place differs. refl;
  said = refl;
  fair = λ fair. fair;
  gone = refl;
  long = refl;
}

pub take_first-request-requires : goal.take_first-request-requires
take_first-request-requires g c = omega (arith, c.loop-member.invariant.counted, c.loop-member-test.true, c.len-member-end.ensures)

pub accept-requires-clause-kept : goal.accept-requires-clause-kept
accept-requires-clause-kept g c =
    serves_kept recording g.S.Peer.Peer.traffic _ _ _ _ _ c.requires.kept c.loop-member.invariant.tells.serves

pub accept-requires-clause-awaits : goal.accept-requires-clause-awaits
accept-requires-clause-awaits g c =
    rw c.told.ensures
    (next_waits g.S.Peer.Peer.traffic c.args.end c.args.clients.now c.args.members.items c.loop-member.clients
    c.take_first-request.result c.take_first-request.new.members.items
    (subst
    (λ (left : List Member).
    TellsSoFar g.S.Peer.Peer.traffic c.args.end c.args.clients.now c.args.members.items c.loop-member.clients left)
    c.take_first-request.ensures c.loop-member.invariant.tells))

pub loop-member-preserved : goal.loop-member-preserved
loop-member-preserved g c = record {
  tells = tells_more g.S.Peer.Peer.traffic c.args.end c.args.clients.now c.args.members.items c.loop-member.clients
      c.take_first-request.result c.take_first-request.new.members.items
      (subst
      (λ (left : List Member).
      TellsSoFar g.S.Peer.Peer.traffic c.args.end c.args.clients.now c.args.members.items c.loop-member.clients left)
      c.take_first-request.ensures c.loop-member.invariant.tells) c.accept.new.self
      (rw c.told.ensures at c.accept.ensures.serves) c.accept.ensures.others;
  counted = omega (arith, ap length c.take_first-request.ensures, c.loop-member.invariant.counted);
  others = tells_others g.S.Peer.Peer.traffic c.args.end c.args.clients.now c.args.members.items
      c.loop-member.clients c.take_first-request.result c.take_first-request.new.members.items
      (subst
      (λ (left : List Member).
      TellsSoFar g.S.Peer.Peer.traffic c.args.end c.args.clients.now c.args.members.items c.loop-member.clients left)
      c.take_first-request.ensures c.loop-member.invariant.tells) c.accept.new.self
      c.loop-member.invariant.others c.accept.ensures.others;
  fair = λ fair. c.answered.ensures.fair;
  said = c.answered.ensures.said ∙ c.loop-member.invariant.said;
  gone = c.accept.ensures.gone ∙ c.loop-member.invariant.gone;
  long = c.accept.ensures.long ∙ c.loop-member.invariant.long;
}

pub returns-clause-serves : goal.returns-clause-serves
returns-clause-serves g c =
    tells_all g.S.Peer.Peer.traffic c.args.end c.args.clients.now c.args.members.items c.loop-member.clients
    (subst
    (λ (left : List Member).
    TellsSoFar g.S.Peer.Peer.traffic c.args.end c.args.clients.now c.args.members.items c.loop-member.clients left)
    (nil_from_length c.loop-member.left.items
    (omega (arith, c.loop-member.invariant.counted, c.loop-member-test.false, c.len-member-end.ensures)))
    c.loop-member.invariant.tells)
