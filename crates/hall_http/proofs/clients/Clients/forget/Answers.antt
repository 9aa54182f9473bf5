use Rattle.std.proofs.Common.{◌∙◌, ap, arith, sym, refl, None, Some, Option, inl, inr, ◌<◌, length}
use Rattle.std.proofs.lemmas.List.{get_or-set_same, get_or_past}
use Rattle.std.specs.Prelude.{slice_set}
use Rattle.std.specs.Vec.{with_item}
use Rattle.hall_http.specs.declared.client.Client.{Client}
use Rattle.hall_http.proofs.Crowds.{kept_gone, keep_place, still_free}
use Rattle.hall_http.proofs.Numbers.{is_still, read_at}
use Rattle.hall_http.proofs.Peers.{later_as}
use Rattle.hall_http.proofs.SoFar.{keeps_all}
use Rattle.hall_http.proofs.clients.Clients.forget.Goals as goal

pub returns-then-place-len-clause-kept : goal.returns-then-place-len-clause-kept
returns-then-place-len-clause-kept g c = keeps_all g.P.Peer.traffic c.args.self.now

pub returns-then-place-len-clause-none : goal.returns-then-place-len-clause-none
returns-then-place-len-clause-none g c =
    get_or_past c.args.self.now.places.items c.args.place None
    (omega (arith, c.if-place-len.true, c.len.ensures))

pub returns-then-place-len-clause-others : goal.returns-then-place-len-clause-others
returns-then-place-len-clause-others g c = λ other differs. refl

pub returns-in_default-clause-others : goal.returns-in_default-clause-others
returns-in_default-clause-others g c =
    let inside : c.args.place < length c.args.self.now.places.items =
    omega (arith, c.if-place-len.false, c.len.ensures, c.args.self.now.places.ok.0) in
    λ other differs. is_still c.args.self.now.places.items c.args.place c.take_at.new.place inside other differs

pub returns-clause-others : goal.returns-clause-others
returns-clause-others g c =
    let inside : c.args.place < length c.args.self.now.places.items =
    omega (arith, c.if-place-len.false, c.len.ensures, c.args.self.now.places.ok.0) in
    λ other differs. is_still c.args.self.now.places.items c.args.place c.take_at.new.place inside other differs

pub returns-then-place-len-clause-lost : goal.returns-then-place-len-clause-lost
returns-then-place-len-clause-lost g c = inl refl

pub returns-in_default-clause-none : goal.returns-in_default-clause-none
returns-in_default-clause-none g c =
    get_or-set_same c.args.self.now.places.items c.args.place c.take_at.new.place None
    (omega (arith, c.if-place-len.false, c.len.ensures, c.args.self.now.places.ok.0))
    ∙ c.take_at.ensures.free

pub returns-in_default-clause-lost : goal.returns-in_default-clause-lost
returns-in_default-clause-lost g c = inl refl

pub returns-clause-none : goal.returns-clause-none
returns-clause-none g c =
    get_or-set_same c.args.self.now.places.items c.args.place c.take_at.new.place None
    (omega (arith, c.if-place-len.false, c.len.ensures, c.args.self.now.places.ok.0))
    ∙ c.take_at.ensures.free

pub returns-clause-lost : goal.returns-clause-lost
returns-clause-lost g c =
    let inside : c.args.place < length c.args.self.now.places.items =
    omega (arith, c.if-place-len.false, c.len.ensures, c.args.self.now.places.ok.0) in
    inr (
      c.new-closed.result,
      (
        c.in-Some.client,
        read_at c.args.self.now.places.items c.args.place c.index_mut.result.now (Some c.in-Some.client) inside
            c.index_mut.ensures.value (sym c.take_at.ensures.taken ∙ c.in-Some.is),
        later_as (g.P.Peer.traffic c.in-Some.client.peer) (g.P.Peer.traffic c.new-closed.result.peer)
            (ap (λ (p : g.row.P.Denot). g.P.Peer.traffic p) c.new-closed.ensures),
      ),
      c.and-self.ensures,
    )

pub returns-in_default-clause-kept : goal.returns-in_default-clause-kept
returns-in_default-clause-kept g c =
    let inside : c.args.place < length c.args.self.now.places.items =
    omega (arith, c.if-place-len.false, c.len.ensures, c.args.self.now.places.ok.0) in
    keep_place g.P.Peer.traffic c.args.self.now c.args.place inside c.index_mut.result.now c.take_at.new.place
    c.index_mut.ensures.value (inl (sym c.take_at.ensures.taken ∙ c.in_default.is, c.take_at.ensures.free))

pub returns-clause-kept : goal.returns-clause-kept
returns-clause-kept g c =
    let inside : c.args.place < length c.args.self.now.places.items =
    omega (arith, c.if-place-len.false, c.len.ensures, c.args.self.now.places.ok.0) in (
      still_free g.P.Peer.traffic c.args.self.now c.args.place inside c.index_mut.result.now c.take_at.new.place
          c.index_mut.ensures.value (record {
            places = with_item c.args.self.now.places c.args.place c.take_at.new.place;
            gone = c.and-self.result;
          }) refl c.take_at.ensures.free,
      λ few many turns kept.
          kept_gone g.P.Peer.traffic few many turns c.args.self.now kept c.args.place inside c.in-Some.client
          (read_at c.args.self.now.places.items c.args.place c.index_mut.result.now (Some c.in-Some.client) inside
          c.index_mut.ensures.value (sym c.take_at.ensures.taken ∙ c.in-Some.is))
          (record {
            places = with_item c.args.self.now.places c.args.place c.take_at.new.place;
            gone = c.and-self.result;
          })
          c.new-closed.result (c.args.departure, c.args.place) c.new-closed.ensures
          (c.requires c.in-Some.client
          (read_at c.args.self.now.places.items c.args.place c.index_mut.result.now (Some c.in-Some.client) inside
          c.index_mut.ensures.value (sym c.take_at.ensures.taken ∙ c.in-Some.is)))
          (ap (λ (o : Option (Client g.row.P.Denot)). slice_set c.args.self.now.places.items c.args.place o)
          c.take_at.ensures.free)
          c.and-self.ensures,
    )
