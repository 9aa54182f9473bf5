use Rattle.std.proofs.Common.{refl, inr, subst, sym, Option, Some, [], ◌∷◌, ◌++◌}
use Rattle.hall_http.specs.Group.{Awaits, answered_at, recording}
use Rattle.hall_http.specs.Turns.{IsPlaceAnswered}
use Rattle.hall_http.specs.declared.client.Client.{Client}
use Rattle.hall_http.proofs.clients.accept_at.Goals as goal

pub accept-requires-clause-awaits : goal.accept-requires-clause-awaits
accept-requires-clause-awaits g c =
    subst (λ (o : Option (Client g.row.P.Denot)). Awaits o c.args.joined) c.in-Some.is c.requires.awaits

pub unreachable-requires : goal.unreachable-requires
unreachable-requires g c =
    subst (λ (o : Option (Client g.row.P.Denot)). Awaits o c.args.joined) c.in-None.is c.requires.awaits

pub returns : goal.returns
returns g c = λ told moment.
    subst
    (λ (o : Option (Client g.row.P.Denot)).
    IsPlaceAnswered recording g.P.Peer.traffic moment told o (told ++ answered_at o moment c.args.joined ∷ [])
    (Some c.accept.new.self))
    (sym c.in-Some.is) (inr (c.in-Some.client, c.accept.new.self, refl, refl, c.accept.ensures told moment))
