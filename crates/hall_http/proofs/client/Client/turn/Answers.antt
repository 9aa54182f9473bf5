use Rattle.std.proofs.Common.{inl, inr, refl, arith}
use Rattle.hall_http.proofs.Going.{goes_next, turn_ended, turn_spent}
use Rattle.hall_http.proofs.Peers.{kept_same, kept_then}
use Rattle.hall_http.proofs.Rested.{rests_never, rests_then}
use Rattle.hall_http.proofs.client.Client.turn.Goals as goal

pub loop-step-init : goal.loop-step-init
loop-step-init g c = record {
  kept = kept_same g.P.Peer.traffic _;
  rests = rests_never g.H.Responder.rests _;
  goes = inl (refl, refl);
}

pub step-requires : goal.step-requires
step-requires g c = (c.requires.0, c.loop-step.invariant.kept.kept c.requires.0 c.requires.1)

pub loop-step-preserved : goal.loop-step-preserved
loop-step-preserved g c = record {
  kept = kept_then g.P.Peer.traffic _ _ _ c.loop-step.invariant.kept c.step.ensures.kept;
  rests = rests_then g.H.Responder.rests _ _ _ c.loop-step.invariant.rests c.step.ensures.rests;
  goes = inr (goes_next g.P.Peer.traffic _ _ _ _ _ c.loop-step.invariant.goes (rw c.in-Again.is at c.step.ensures.goes));
}

pub returns-in_default-clause-kept : goal.returns-in_default-clause-kept
returns-in_default-clause-kept g c =
    kept_then g.P.Peer.traffic _ _ _ c.loop-step.invariant.kept c.step.ensures.kept

pub returns-in_default-clause-rests : goal.returns-in_default-clause-rests
returns-in_default-clause-rests g c =
    rests_then g.H.Responder.rests _ _ _ c.loop-step.invariant.rests c.step.ensures.rests

pub returns-in_default-clause-takes : goal.returns-in_default-clause-takes
returns-in_default-clause-takes g c =
    turn_ended g.P.Peer.traffic _ _ _ _ (omega (arith, c.loop-step-test.true)) c.in_default.not-Again
    (goes_next g.P.Peer.traffic _ _ _ _ _ c.loop-step.invariant.goes c.step.ensures.goes)

pub returns-clause-takes : goal.returns-clause-takes
returns-clause-takes g c =
    turn_spent g.P.Peer.traffic _ _ _ (omega (arith, c.loop-step.auto._step-end, c.loop-step-test.false))
    c.loop-step.invariant.goes
