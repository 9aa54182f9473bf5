use Rattle.std.proofs.Common.{◌∙◌, arith, inl, refl, sym}
use Rattle.std.proofs.lemmas.List.{append-nil, length-drop}
use Rattle.hall_http.specs.Outgoing.{outgoing_text}
use Rattle.hall_http.proofs.Going.{goes_sent}
use Rattle.hall_http.proofs.Peers.{client_sent, client_waits, later_same, later_sent, may_send}
use Rattle.hall_http.proofs.client.Client.write.Goals as goal

pub send-requires-clause-from : goal.send-requires-clause-from
send-requires-clause-from g c =
    let k = c.args.self.now.connection in
    omega (arith, c.has_sent_all.ensures.no c.if-has_sent_all.false, length-drop k.sent (outgoing_text k.reply))

pub send-requires-clause-hung_up : goal.send-requires-clause-hung_up
send-requires-clause-hung_up g c =
    may_send g.P.Peer.traffic _ _ _ _ c.requires.kept.0 c.requires.kept.1 c.requires.at.0 c.requires.at.1

pub returns-then-has_sent_all-clause-moved : goal.returns-then-has_sent_all-clause-moved
returns-then-has_sent_all-clause-moved g c = (
  record {
    later = later_same _;
    kept = λ xs is.
        client_sent g.P.Peer.traffic _ _ _ _ xs is _ _ c.requires.at.0 0 c.requires.at.1 c.sent.ensures
        refl refl (sym (append-nil _)) refl refl;
  },
  tt,
  tt,
)

pub returns-in-None-clause-moved : goal.returns-in-None-clause-moved
returns-in-None-clause-moved g c = (
  record {
    later = later_sent _ _ _ c.in-None.ensures.number c.in-None.ensures.came c.in-None.ensures.reads
        c.in-None.ensures.went c.in-None.ensures.over (λ told. c.in-None.ensures.broke) c.in-None.ensures.hung_up
        (_, c.in-None.ensures.calls);
    kept = λ xs is.
        client_waits g.P.Peer.traffic _ _ _ _ xs is c.args.self.now.connection _ c.in-None.ensures.came
        c.in-None.ensures.reads (c.in-None.ensures.went ∙ append-nil _) c.in-None.ensures.over
        c.in-None.ensures.hung_up;
  },
  inl c.in-None.ensures.broke,
  tt,
)

pub returns-clause-moved : goal.returns-clause-moved
returns-clause-moved g c = (
  record {
    later = later_sent _ _ _ c.in-Some.ensures.number c.in-Some.ensures.came c.in-Some.ensures.reads
        c.in-Some.ensures.went c.in-Some.ensures.over (λ told. c.in-Some.ensures.broke ∙ told)
        c.in-Some.ensures.hung_up (_, c.in-Some.ensures.calls);
    kept = λ xs is.
        client_sent g.P.Peer.traffic _ _ _ _ xs is _ _ c.requires.at.0 _ c.requires.at.1 c.sent-in-Some.ensures
        c.in-Some.ensures.came c.in-Some.ensures.reads c.in-Some.ensures.went c.in-Some.ensures.over
        c.in-Some.ensures.hung_up;
  },
  tt,
  tt,
)

pub returns-then-has_sent_all-clause-goes : goal.returns-then-has_sent_all-clause-goes
returns-then-has_sent_all-clause-goes g c =
    goes_sent g.P.Peer.traffic _ _ _ _ _ c.requires.at.0 c.requires.at.1
    (c.has_sent_all.ensures.yes c.if-has_sent_all.true) c.sent.ensures
