use Rattle.std.proofs.Common.{◌≡◌, ◌∙◌, arith, inr, length, refl, sym, take}
use Rattle.std.proofs.lemmas.List.{length-take-le}
use Rattle.hall_http.proofs.Peers.{client_left, later_read, over_by, reads_more}
use Rattle.hall_http.proofs.client.Client.read_off.Goals as goal

pub returns-in-Some-clause-moved : goal.returns-in-Some-clause-moved
returns-in-Some-clause-moved g c =
    let bytes = take c.in-Some.field-0 c.receive.new.chunk in
    let whole : length bytes ≡ c.in-Some.field-0 =
    length-take-le c.in-Some.field-0 c.receive.new.chunk
    (omega (arith, c.receive.array_long, c.in-Some.ensures.bound)) in
    let (some, rise, few) = reads_more (g.P.Peer.traffic c.args.self.now.peer).reads c.in-Some.field-0 in
    let reads = c.in-Some.ensures.reads ∙ rise in (
      record {
        later = later_read _ _ _ c.in-Some.ensures.number c.in-Some.ensures.came (omega (arith, reads))
            c.in-Some.ensures.went (λ told. c.in-Some.ensures.over ∙ over_by _ _ told) c.in-Some.ensures.broke
            c.in-Some.ensures.hung_up (_, c.in-Some.ensures.calls);
        kept = λ xs is.
            client_left g.P.Peer.traffic _ _ _ _ xs is c.args.self.now.connection _ c.requires.at.0 _ _ c.requires.at.1
            c.requires.unended c.in-Some.ensures.came
            (some, reads, omega (arith, whole, few)) c.in-Some.ensures.went
            (λ over. let clash = sym c.requires.unended ∙ over in absurd cc) c.in-Some.ensures.hung_up;
      },
      tt,
      c.requires.at,
    )

pub returns-in-None-clause-moved : goal.returns-in-None-clause-moved
returns-in-None-clause-moved g c = (
  record {
    later = later_read _ _ _ c.in-None.ensures.number c.in-None.ensures.came (omega (arith, c.in-None.ensures.reads))
        c.in-None.ensures.went (λ told. c.in-None.ensures.over) c.in-None.ensures.broke c.in-None.ensures.hung_up
        (_, c.in-None.ensures.calls);
    kept = λ xs is.
        client_left g.P.Peer.traffic _ _ _ _ xs is c.args.self.now.connection _ c.requires.at.0 _ _ c.requires.at.1
        c.requires.unended c.in-None.ensures.came (0, c.in-None.ensures.reads ∙ omega arith, omega arith)
        c.in-None.ensures.went (λ _. c.in-None.ensures.over) c.in-None.ensures.hung_up;
  },
  inr (c.in-None.ensures.hung_up ∙ c.requires.hung_up, c.in-None.ensures.over),
  tt,
)
