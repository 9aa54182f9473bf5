use Rattle.std.proofs.Common.{arith, ap, refl, subst, sym, ◌≡◌, ◌≤◌, ◌∙◌, take, length, ℕ}
use Rattle.std.proofs.lemmas.List.{length-take-le}
use Rattle.hall_http.specs.Peer.{moved}
use Rattle.hall_http.proofs.Peers.{TellsEnd, client_heard, client_ended, gave_none, later_read, over_by, over_some}
use Rattle.hall_http.proofs.Peers.{reads_some}
use Rattle.hall_http.proofs.client.Client.read.Goals as goal
use Rattle.hall_http.proofs.client.Client.read.Goals.{in_default-via-in-Some+else-count-gt0, in_default-via-in_default}

pub returns-in-Some-clause-moved : goal.returns-in-Some-clause-moved
returns-in-Some-clause-moved g c =
    let bytes = take c.in-Some.count c.receive.new.chunk in
    let few : c.in-Some.count ≤ length c.receive.new.chunk =
    omega (arith, c.receive.array_long, c.in-Some.ensures.bound) in
    let whole : length bytes ≡ c.in-Some.count = length-take-le c.in-Some.count c.receive.new.chunk few in
    let reads = c.in-Some.ensures.reads ∙ reads_some _ c.in-Some.count c.if-count-gt0.true in (
      record {
        later = later_read _ _ bytes c.in-Some.ensures.number c.in-Some.ensures.came (omega (arith, reads))
            c.in-Some.ensures.went (λ told. c.in-Some.ensures.over ∙ over_by _ _ told) c.in-Some.ensures.broke
            c.in-Some.ensures.hung_up (_, c.in-Some.ensures.calls);
        kept = λ xs is.
            client_heard g.P.Peer.traffic _ _ _ _ xs is _ _ bytes c.requires.at
            (omega (arith, whole, c.if-count-gt0.true)) (omega (arith, whole, c.in-Some.ensures.bound)) c.hear.ensures
            c.in-Some.ensures.came reads c.in-Some.ensures.went
            (c.in-Some.ensures.over ∙ over_some _ c.in-Some.count c.if-count-gt0.true) c.in-Some.ensures.hung_up;
      },
      tt,
      tt,
    )

pub returns-in_default-clause-moved : goal.returns-in_default-clause-moved
returns-in_default-clause-moved g c =
    let none : moved c.receive.result ≡ 0 =
    elim c.in_default.branch [
      | in_default-via-in-Some+else-count-gt0 w ↦ ap moved w.in-Some.is ∙ omega (arith, w.if-count-gt0.false)
      | in_default-via-in_default w ↦ ap moved w.in_default.is
    ] in
    let ends : TellsEnd c.receive.result =
    elim c.in_default.branch [
      | in_default-via-in-Some+else-count-gt0 w ↦
          subst TellsEnd (sym w.in-Some.is) (gave_none w.in-Some.count (omega (arith, w.if-count-gt0.false)))
      | in_default-via-in_default w ↦ subst TellsEnd (sym w.in_default.is) ((λ over. refl), (λ reads. refl))
    ] in
    let reads = c.receive.ensures.reads ∙ ends.1 _ in
    let over = c.receive.ensures.over ∙ ends.0 _ in (
      record {
        later = later_read _ _ _ c.receive.ensures.number c.receive.ensures.came (omega (arith, reads))
            c.receive.ensures.went (λ told. over) c.receive.ensures.broke c.receive.ensures.hung_up
            (_, c.receive.ensures.calls);
        kept = λ xs is.
            client_ended g.P.Peer.traffic _ _ _ _ xs is _ _ (take (moved c.receive.result) c.receive.new.chunk)
            c.requires.at c.end_input.ensures (ap (λ (n : ℕ). take n c.receive.new.chunk) none)
            c.receive.ensures.came reads c.receive.ensures.went over c.receive.ensures.hung_up;
      },
      tt,
      tt,
    )
