use Rattle.std.proofs.Common.{◌∙◌, ap, arith, refl, subst, sym, append_assoc, List, [], ◌∷◌, ◌++◌, true}
use Rattle.std.specs.Prelude.{All}
use Rattle.std.proofs.lemmas.List.{length_push}
use Rattle.std.proofs.lemmas.List.Elements.{All-nil}
use Rattle.hall_http.specs.Crowd.{AreReady, IsSameAt}
use Rattle.hall_http.specs.Group.{requests_of}
use Rattle.hall_http.specs.declared.clients.HeldRequest.{HeldRequest}
use Rattle.hall_http.proofs.Crowds.{serves_none}
use Rattle.hall_http.proofs.Gathered.{serves_on}
use Rattle.hall_http.proofs.Heard.{serves_kept, serves_more, serves_then}
use Rattle.hall_http.proofs.Ready.{all_first, joined_few, last_none, left_ready, same_behind, same_rest, some_last}
use Rattle.hall_http.proofs.Rested.{rests_still}
use Rattle.hall_http.proofs.server.answer_held.Goals as goal

pub loop-one-init : goal.loop-one-init
loop-one-init g c = record {
  serves = ([], refl, (λ less. absurd (omega (arith, less)), omega arith), serves_none g.S.Peer.Peer.traffic _ _ _);
  same = λ i d inside. refl;
  said = refl;
  fair = λ fair. fair;
  gone = refl;
  long = refl;
}

pub answer_together-requires-clause-kept : goal.answer_together-requires-clause-kept
answer_together-requires-clause-kept g c =
    serves_kept _ g.S.Peer.Peer.traffic _ _ _ _ _ c.requires.kept c.loop-one.invariant.serves.3

pub answer-requires-clause-kept : goal.answer-requires-clause-kept
answer-requires-clause-kept g c =
    serves_kept _ g.S.Peer.Peer.traffic _ _ _ _ _ c.requires.kept c.loop-one.invariant.serves.3

pub answer-requires-clause-ready : goal.answer-requires-clause-ready
answer-requires-clause-ready g c =
    let (front, is, some, serves) = c.loop-one.invariant.serves in
    let off = sym c.in_default.ensures.gathered ∙ c.in-Some-pop.ensures in
    let ready = left_ready c.args.clients.now c.loop-one.clients c.args.held.now front c.loop-one.held
    c.requires.ready is c.loop-one.invariant.same in
    let first = subst (AreReady c.loop-one.clients) off ready in
    first.0

pub returns-in-Some-clause-serves : goal.returns-in-Some-clause-serves
returns-in-Some-clause-serves g c =
    let (front, is, some, serves) = c.loop-one.invariant.serves in
    let members = c.in-Some.group.members.items in
    let s = c.args.clients.now in
    let m = c.loop-one.clients in
    let same = subst (All (λ one. IsSameAt s m one.place)) c.in-Some.ensures.gathered.2 c.loop-one.invariant.same in (
      front ++ requests_of members,
      is ∙ ap (λ (rest : List HeldRequest). front ++ rest) c.in-Some.ensures.gathered.2
          ∙ sym (append_assoc front (requests_of members) c.gather.new.held),
      (
        λ none. absurd (c.in-Some.ensures.gathered.1 (last_none front members none)),
        joined_few front members c.loop-one._one (some.1) c.loop-one-test.true c.in-Some.ensures.gathered.3,
      ),
      serves_more _ g.S.Peer.Peer.traffic front (requests_of members) _ _ _ s m _
          (all_first (λ one. IsSameAt s m one.place) (requests_of members) c.gather.new.held same)
          (serves_on _ g.S.Peer.Peer.traffic front _ _ _ _ _ serves
          (rests_still g.H.Responder.rests _ _ true c.gather.ensures.rests)) c.answer_together.ensures.serves,
    )

pub returns-in-Some-clause-same : goal.returns-in-Some-clause-same
returns-in-Some-clause-same g c = λ on.
    let (front, is, some, serves) = c.loop-one.invariant.serves in
    let members = c.in-Some.group.members.items in
    let s = c.args.clients.now in
    let m = c.loop-one.clients in
    let off = c.in-Some.ensures.gathered.2 in
    let ready = left_ready s m c.args.held.now front c.loop-one.held c.requires.ready is c.loop-one.invariant.same in
    same_behind s m c.answer_together.new.clients members c.gather.new.held (subst (AreReady m) off ready)
    (c.answer_together.ensures.others on)
    (subst (All (λ one. IsSameAt s m one.place)) off c.loop-one.invariant.same)

pub returns-in-Some-clause-said : goal.returns-in-Some-clause-said
returns-in-Some-clause-said g c = c.answer_together.ensures.said ∙ c.loop-one.invariant.said

pub returns-in-Some-clause-fair : goal.returns-in-Some-clause-fair
returns-in-Some-clause-fair g c = λ fair. c.answer_together.ensures.fair (c.loop-one.invariant.fair fair)

pub returns-in-Some-clause-gone : goal.returns-in-Some-clause-gone
returns-in-Some-clause-gone g c = c.answer_together.ensures.gone ∙ c.loop-one.invariant.gone

pub returns-in-Some-clause-long : goal.returns-in-Some-clause-long
returns-in-Some-clause-long g c = c.answer_together.ensures.long ∙ c.loop-one.invariant.long

pub loop-one-preserved : goal.loop-one-preserved
loop-one-preserved g c =
    let (front, is, some, serves) = c.loop-one.invariant.serves in
    let one = c.in-Some-pop.one in
    let s = c.args.clients.now in
    let m = c.loop-one.clients in
    let off = sym c.in_default.ensures.gathered ∙ c.in-Some-pop.ensures in
    let ready = left_ready s m c.args.held.now front c.loop-one.held c.requires.ready is c.loop-one.invariant.same in
    let same = subst (All (λ one. IsSameAt s m one.place)) off c.loop-one.invariant.same in
    record {
      serves = (
        front ++ one ∷ [],
        is ∙ ap (λ (rest : List HeldRequest). front ++ rest) off
            ∙ sym (append_assoc front (one ∷ []) c.pop.new.self),
        (λ more. some_last front one, omega (arith, length_push front one, some.1)),
        serves_more _ g.S.Peer.Peer.traffic front (one ∷ []) _ _ _ s m _
            (all_first (λ one. IsSameAt s m one.place) (one ∷ []) c.pop.new.self same)
            (serves_on _ g.S.Peer.Peer.traffic front _ _ _ _ _ serves
            (rests_still g.H.Responder.rests _ _ true c.gather.ensures.rests))
            (rw c.if-not-answer.false at c.answer.ensures.serves),
      );
      same = same_rest s m c.answer.new.self one c.pop.new.self (subst (AreReady m) off ready) c.answer.ensures.others
          same;
      fair = λ fair. c.answered.ensures.fair;
      said = c.answered.ensures.said ∙ c.loop-one.invariant.said;
      gone = c.answer.ensures.gone ∙ c.loop-one.invariant.gone;
      long = c.answer.ensures.long ∙ c.loop-one.invariant.long;
    }

pub finish-requires : goal.finish-requires
finish-requires g c =
    serves_kept _ g.S.Peer.Peer.traffic (c.in-Some-pop.one ∷ []) _ _ _ _
    (serves_kept _ g.S.Peer.Peer.traffic _ _ _ _ _ c.requires.kept c.loop-one.invariant.serves.3)
    c.answer.ensures.serves

pub returns-then-not-answer-clause-serves : goal.returns-then-not-answer-clause-serves
returns-then-not-answer-clause-serves g c =
    let (front, is, some, serves) = c.loop-one.invariant.serves in
    let one = c.in-Some-pop.one in
    let s = c.args.clients.now in
    let m = c.loop-one.clients in
    let off = sym c.in_default.ensures.gathered ∙ c.in-Some-pop.ensures in (
      front ++ one ∷ [],
      is ∙ ap (λ (rest : List HeldRequest). front ++ rest) off
          ∙ sym (append_assoc front (one ∷ []) c.pop.new.self),
      (λ none. absurd (some_last front one none), omega (arith, length_push front one, some.1, c.loop-one-test.true)),
      serves_more _ g.S.Peer.Peer.traffic front (one ∷ []) _ _ _ s m _
          (all_first (λ one. IsSameAt s m one.place) (one ∷ []) c.pop.new.self
          (subst (All (λ one. IsSameAt s m one.place)) off c.loop-one.invariant.same))
          (serves_on _ g.S.Peer.Peer.traffic front _ _ _ _ _ serves
          (rests_still g.H.Responder.rests _ _ true c.gather.ensures.rests))
          (serves_then _ g.S.Peer.Peer.traffic (one ∷ []) _ _ _ _ _ (rw c.if-not-answer.true at c.answer.ensures.serves)
          c.finish.ensures.kept),
    )

pub returns-then-not-answer-clause-same : goal.returns-then-not-answer-clause-same
returns-then-not-answer-clause-same g c = λ on. absurd cc

pub returns-then-not-answer-clause-gone : goal.returns-then-not-answer-clause-gone
returns-then-not-answer-clause-gone g c =
    c.finish.ensures.gone ∙ c.answer.ensures.gone ∙ c.loop-one.invariant.gone

pub returns-then-not-answer-clause-long : goal.returns-then-not-answer-clause-long
returns-then-not-answer-clause-long g c =
    c.finish.ensures.long ∙ c.answer.ensures.long ∙ c.loop-one.invariant.long

pub returns-in_default-pop-clause-serves : goal.returns-in_default-pop-clause-serves
returns-in_default-pop-clause-serves g c =
    let (front, is, some, serves) = c.loop-one.invariant.serves in (
      front,
      is ∙ ap (λ (rest : List HeldRequest). front ++ rest)
          (sym c.in_default.ensures.gathered ∙ c.in_default-pop.ensures.0 ∙ sym c.in_default-pop.ensures.1),
      (λ none. c.in_default-pop.ensures.1, omega (arith, some.1, c.loop-one-test.true)),
      serves_on _ g.S.Peer.Peer.traffic front _ _ _ _ _ serves
          (rests_still g.H.Responder.rests _ _ true c.gather.ensures.rests),
    )

pub returns-in_default-pop-clause-same : goal.returns-in_default-pop-clause-same
returns-in_default-pop-clause-same g c = λ on.
    subst (All (λ one. IsSameAt c.args.clients.now c.loop-one.clients one.place)) (sym c.in_default-pop.ensures.1)
    (All-nil (λ one. IsSameAt c.args.clients.now c.loop-one.clients one.place))

pub returns-clause-serves : goal.returns-clause-serves
returns-clause-serves g c =
    let (front, is, some, serves) = c.loop-one.invariant.serves in
    (front, is, (λ none. absurd (some.0 (omega arith) none), omega (arith, some.1)), serves)
