use Rattle.std.proofs.Common.{◌∙◌, arith, ◌<◌, ◌≤◌, None, Some, length, refl, subst, sym}
use Rattle.std.proofs.lemmas.List.{get_or_past}
use Rattle.std.proofs.lemmas.Option.{same_Some}
use Rattle.hall_http.specs.Turns.{IsClient, service_of}
use Rattle.hall_http.proofs.Crowds.{answer_place, not_answered}
use Rattle.hall_http.proofs.Numbers.{is_still, is_there, read_at}
use Rattle.hall_http.proofs.clients.Clients.answer.Goals as goal

pub returns-then-held-len-clause-serves : goal.returns-then-held-len-clause-serves
returns-then-held-len-clause-serves g c =
    let past : length c.args.self.now.places.items ≤ c.args.held.now.place =
    omega (arith, c.if-held-len.true, c.len.ensures) in
    let clash = sym (get_or_past c.args.self.now.places.items c.args.held.now.place None past) ∙ c.requires.ready.1 in
    absurd cc

pub answer_at-requires : goal.answer_at-requires
answer_at-requires g c =
    let inside : c.args.held.now.place < length c.args.self.now.places.items =
    omega (arith, c.if-held-len.false, c.len.ensures, c.args.self.now.places.ok.0) in
    λ k is. (
      _,
      c.requires.kept.3.here c.args.held.now.place k
          (read_at c.args.self.now.places.items c.args.held.now.place c.index_mut-place.result.now (Some k) inside
          c.index_mut-place.ensures.value is),
    )

pub returns-clause-serves : goal.returns-clause-serves
returns-clause-serves g c =
    let inside : c.args.held.now.place < length c.args.self.now.places.items =
    omega (arith, c.if-held-len.false, c.len.ensures, c.args.self.now.places.ok.0) in
    let (k, at, looking, has) = c.requires.ready in
    let was = sym
    (read_at c.args.self.now.places.items c.args.held.now.place c.index_mut-place.result.now _ inside
    c.index_mut-place.ensures.value refl) ∙ at in
    let (l, now, first) = c.answer_at.ensures.first k was in
    answer_place g.P.Peer.traffic c.args.self.now c.args.held.now.place inside c.index_mut-place.result.now
    c.answer_at.new.place c.index_mut-place.ensures.value
    (service_of g.H.Responder.answers g.H.Responder.joins g.H.Responder.goes_on g.H.Responder.rests
    g.H.Responder.may_wait) _ _ c.args.held.now refl (λ none. let clash = sym none ∙ was in absurd cc)
    (λ j m xs stood then before after session.
    rw (same_Some j k (sym stood ∙ was))
    (not_answered g.P.Peer.traffic g.H.Responder.may_wait k l c.answer_at.new.responder xs
    (subst (IsClient g.P.Peer.traffic xs) (same_Some j k (sym stood ∙ was)) before)
    (subst (IsClient g.P.Peer.traffic xs) (same_Some m l (sym then ∙ now)) after) looking has first))
    c.answer_at.ensures.answered

pub returns-clause-others : goal.returns-clause-others
returns-clause-others g c =
    let inside : c.args.held.now.place < length c.args.self.now.places.items =
    omega (arith, c.if-held-len.false, c.len.ensures, c.args.self.now.places.ok.0) in
    λ place differs.
    is_still c.args.self.now.places.items c.args.held.now.place c.answer_at.new.place inside place differs

pub returns-then-held-len-clause-others : goal.returns-then-held-len-clause-others
returns-then-held-len-clause-others g c = λ place differs. refl

pub returns-then-held-len-clause-first : goal.returns-then-held-len-clause-first
returns-then-held-len-clause-first g c = λ k at.
    let past : length c.args.self.now.places.items ≤ c.args.held.now.place =
    omega (arith, c.if-held-len.true, c.len.ensures) in
    let clash = sym (get_or_past c.args.self.now.places.items c.args.held.now.place None past) ∙ at in
    absurd cc

pub returns-clause-first : goal.returns-clause-first
returns-clause-first g c =
    let items = c.args.self.now.places.items in
    let place = c.args.held.now.place in
    let inside : c.args.held.now.place < length c.args.self.now.places.items =
    omega (arith, c.if-held-len.false, c.len.ensures, c.args.self.now.places.ok.0) in
    λ k at.
    let was = sym (read_at items place c.index_mut-place.result.now _ inside c.index_mut-place.ensures.value refl) ∙ at in
    let (l, now, first) = c.answer_at.ensures.first k was in
    (l, is_there items place c.answer_at.new.place inside ∙ now, first)
