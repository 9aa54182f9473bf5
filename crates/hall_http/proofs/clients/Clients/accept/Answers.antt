use Rattle.std.proofs.Common.{◌∙◌, arith, ◌<◌, ◌≤◌, [], ◌∷◌, ◌++◌, None, Some, Option, length, refl, subst, sym}
use Rattle.std.proofs.lemmas.List.{get_or_past}
use Rattle.std.specs.Vec.{with_item}
use Rattle.hall_http.specs.Crowd.{Serves}
use Rattle.hall_http.specs.Group.{Awaits, answered_at, recording}
use Rattle.hall_http.specs.declared.client.Client.{Client}
use Rattle.hall_http.proofs.Crowds.{answer_place}
use Rattle.hall_http.proofs.Gathered.{some_noted}
use Rattle.hall_http.proofs.Numbers.{is_still, read_at}
use Rattle.hall_http.proofs.clients.Clients.accept.Goals as goal

pub unreachable-requires : goal.unreachable-requires
unreachable-requires g c =
    let past : length c.args.self.now.places.items ≤ c.args.held.now.place =
    omega (arith, c.if-held-len.true, c.len.ensures) in
    subst (λ (o : Option (Client g.row.P.Denot)). Awaits o c.args.joined)
    (get_or_past c.args.self.now.places.items c.args.held.now.place None past) c.requires.awaits

pub accept_at-requires-clause-kept : goal.accept_at-requires-clause-kept
accept_at-requires-clause-kept g c =
    let inside : c.args.held.now.place < length c.args.self.now.places.items =
    omega (arith, c.if-held-len.false, c.len.ensures, c.args.self.now.places.ok.0) in
    λ k is. (
      _,
      c.requires.kept.3.here c.args.held.now.place k
          (read_at c.args.self.now.places.items c.args.held.now.place c.index_mut-place.result.now (Some k) inside
          c.index_mut-place.ensures.value is),
    )

pub accept_at-requires-clause-awaits : goal.accept_at-requires-clause-awaits
accept_at-requires-clause-awaits g c =
    let inside : c.args.held.now.place < length c.args.self.now.places.items =
    omega (arith, c.if-held-len.false, c.len.ensures, c.args.self.now.places.ok.0) in
    subst (λ (o : Option (Client g.row.P.Denot)). Awaits o c.args.joined)
    (read_at c.args.self.now.places.items c.args.held.now.place c.index_mut-place.result.now _ inside
    c.index_mut-place.ensures.value refl) c.requires.awaits

pub returns-clause-serves : goal.returns-clause-serves
returns-clause-serves g c =
    let inside : c.args.held.now.place < length c.args.self.now.places.items =
    omega (arith, c.if-held-len.false, c.len.ensures, c.args.self.now.places.ok.0) in
    let held = c.args.held.now in
    λ told.
    subst
    (λ (o : Option (Client g.row.P.Denot)).
    Serves recording g.P.Peer.traffic (held ∷ []) told c.args.self.now
    (told ++ answered_at o held.moment c.args.joined ∷ [])
    (record {
      places = with_item c.args.self.now.places held.place c.accept_at.new.place;
      gone = c.args.self.now.gone;
    }))
    (sym
    (read_at c.args.self.now.places.items c.args.held.now.place c.index_mut-place.result.now _ inside
    c.index_mut-place.ensures.value refl))
    (answer_place g.P.Peer.traffic c.args.self.now held.place inside c.index_mut-place.result.now
    c.accept_at.new.place c.index_mut-place.ensures.value recording told _ held refl
    (λ none.
    subst (λ (o : Option (Client g.row.P.Denot)). Awaits o c.args.joined)
    (read_at c.args.self.now.places.items c.args.held.now.place c.index_mut-place.result.now _ inside
    c.index_mut-place.ensures.value refl ∙ none) c.requires.awaits)
    (λ k l xs was now before after session. absurd (some_noted told _ session)) (c.accept_at.ensures told held.moment))

pub returns-clause-others : goal.returns-clause-others
returns-clause-others g c =
    let inside : c.args.held.now.place < length c.args.self.now.places.items =
    omega (arith, c.if-held-len.false, c.len.ensures, c.args.self.now.places.ok.0) in
    λ place differs.
    is_still c.args.self.now.places.items c.args.held.now.place c.accept_at.new.place inside place differs
