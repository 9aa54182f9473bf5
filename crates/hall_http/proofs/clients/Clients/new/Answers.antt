use Rattle.std.proofs.Common.{arith}
use Rattle.hall_http.proofs.Crowds.{kept_none}
use Rattle.hall_http.proofs.clients.Clients.new.Goals as goal

pub returns-clause-kept : goal.returns-clause-kept
returns-clause-kept g c = kept_none g.P.Peer.traffic _ c.loop-place.invariant.free c.new.ensures

pub returns-clause-long : goal.returns-clause-long
returns-clause-long g c =
    omega (arith, c.loop-place.invariant.long, c.loop-place.auto._place-end, c.loop-place-test.false)
