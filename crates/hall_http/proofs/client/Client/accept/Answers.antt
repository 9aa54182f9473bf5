use Rattle.std.proofs.Common.{refl, []}
use Rattle.std.specs.Prelude.{None}
use Rattle.hall_http.specs.Group.{recording}
use Rattle.hall_http.proofs.Accepting.{accepted}
use Rattle.hall_http.proofs.Peers.{answered_client, answered_one, answered_sent}
use Rattle.hall_http.proofs.Rested.{rests_never}
use Rattle.hall_http.proofs.client.Client.accept.Goals as goal

pub accept-requires-clause-front : goal.accept-requires-clause-front
accept-requires-clause-front g c = c.requires.awaits.1

pub finish-requires : goal.finish-requires
finish-requires g c =
    answered_client g.P.Peer.traffic recording None [] _ _ _ c.requires.kept
    (answered_one g.P.Peer.traffic recording None [] [] _ _ _ _ _ _ (rests_never recording.rests [])
    c.requires.awaits.0
    (accepted recording.answers [] _ None _ _ c.args.joined c.requires.awaits.1 c.accept.ensures refl))

pub returns : goal.returns
returns g c = λ told moment.
    answered_sent g.P.Peer.traffic recording moment _ _ _ _ _
    (answered_one g.P.Peer.traffic recording moment told told _ _ _ _ _ _ (rests_never recording.rests told)
    c.requires.awaits.0
    (accepted recording.answers told _ moment _ _ c.args.joined c.requires.awaits.1 c.accept.ensures refl))
    c.finish.ensures.kept
