use Rattle.std.proofs.Common.{◌∙◌, arith, ◌<◌, ◌≤◌, None, Some, length, refl, sym}
use Rattle.std.proofs.lemmas.List.{get_or_past}
use Rattle.hall_http.proofs.Crowds.{keep_place}
use Rattle.hall_http.proofs.Numbers.{is_still, is_there, read_at}
use Rattle.hall_http.proofs.Rested.{rests_never}
use Rattle.hall_http.proofs.SoFar.{keeps_all}
use Rattle.hall_http.proofs.clients.Clients.turn.Goals as goal

pub returns-then-place-len-clause-kept : goal.returns-then-place-len-clause-kept
returns-then-place-len-clause-kept g c = keeps_all g.P.Peer.traffic c.args.self.now

pub returns-then-place-len-clause-rests : goal.returns-then-place-len-clause-rests
returns-then-place-len-clause-rests g c = rests_never g.H.Responder.rests _

pub returns-then-place-len-clause-over : goal.returns-then-place-len-clause-over
returns-then-place-len-clause-over g c = λ k at.
    let past : length c.args.self.now.places.items ≤ c.args.place = omega (arith, c.if-place-len.true, c.len.ensures) in
    let clash = sym (get_or_past c.args.self.now.places.items c.args.place None past) ∙ at in
    absurd cc

pub turn_at-requires : goal.turn_at-requires
turn_at-requires g c =
    let inside : c.args.place < length c.args.self.now.places.items =
    omega (arith, c.if-place-len.false, c.len.ensures, c.args.self.now.places.ok.0) in
    λ k is. (
      _,
      c.requires.3.here c.args.place k
          (read_at c.args.self.now.places.items c.args.place c.index_mut.result.now (Some k) inside
          c.index_mut.ensures.value is),
    )

pub returns-clause-kept : goal.returns-clause-kept
returns-clause-kept g c =
    let inside : c.args.place < length c.args.self.now.places.items =
    omega (arith, c.if-place-len.false, c.len.ensures, c.args.self.now.places.ok.0) in
    keep_place g.P.Peer.traffic c.args.self.now c.args.place inside c.index_mut.result.now c.turn_at.new.place
    c.index_mut.ensures.value c.turn_at.ensures.kept

pub returns-clause-over : goal.returns-clause-over
returns-clause-over g c =
    let inside : c.args.place < length c.args.self.now.places.items =
    omega (arith, c.if-place-len.false, c.len.ensures, c.args.self.now.places.ok.0) in
    λ k at.
    c.turn_at.ensures.over k (sym (is_there c.args.self.now.places.items c.args.place c.turn_at.new.place inside)
    ∙ at)

pub returns-then-place-len-clause-stands : goal.returns-then-place-len-clause-stands
returns-then-place-len-clause-stands g c = λ k at. tt

pub returns-clause-stands : goal.returns-clause-stands
returns-clause-stands g c =
    let inside : c.args.place < length c.args.self.now.places.items =
    omega (arith, c.if-place-len.false, c.len.ensures, c.args.self.now.places.ok.0) in
    λ k at.
    c.turn_at.ensures.stands k (sym (is_there c.args.self.now.places.items c.args.place c.turn_at.new.place inside)
    ∙ at)

pub returns-then-place-len-clause-none : goal.returns-then-place-len-clause-none
returns-then-place-len-clause-none g c = λ free. refl

pub returns-clause-none : goal.returns-clause-none
returns-clause-none g c =
    let inside : c.args.place < length c.args.self.now.places.items =
    omega (arith, c.if-place-len.false, c.len.ensures, c.args.self.now.places.ok.0) in
    λ free.
    c.turn_at.ensures.none (sym (is_there c.args.self.now.places.items c.args.place c.turn_at.new.place inside) ∙ free)

pub returns-then-place-len-clause-others : goal.returns-then-place-len-clause-others
returns-then-place-len-clause-others g c = λ other differs. refl

pub returns-clause-others : goal.returns-clause-others
returns-clause-others g c =
    let inside : c.args.place < length c.args.self.now.places.items =
    omega (arith, c.if-place-len.false, c.len.ensures, c.args.self.now.places.ok.0) in
    λ other differs. is_still c.args.self.now.places.items c.args.place c.turn_at.new.place inside other differs

pub returns-then-place-len-clause-takes : goal.returns-then-place-len-clause-takes
returns-then-place-len-clause-takes g c = λ l at.
    let past : length c.args.self.now.places.items ≤ c.args.place = omega (arith, c.if-place-len.true, c.len.ensures) in
    let clash = sym (get_or_past c.args.self.now.places.items c.args.place None past) ∙ at in
    absurd cc

pub returns-clause-takes : goal.returns-clause-takes
returns-clause-takes g c =
    let inside : c.args.place < length c.args.self.now.places.items =
    omega (arith, c.if-place-len.false, c.len.ensures, c.args.self.now.places.ok.0) in
    λ l at.
    let (k, was, took) = c.turn_at.ensures.takes l
    (sym (is_there c.args.self.now.places.items c.args.place c.turn_at.new.place inside) ∙ at) in (
      k,
      read_at c.args.self.now.places.items c.args.place c.index_mut.result.now (Some k) inside
          c.index_mut.ensures.value was,
      took,
    )
