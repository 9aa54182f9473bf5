use Rattle.std.proofs.Common.{◌∙◌, ap, inl, refl, subst, sym, Some}
use Rattle.hall_http.specs.Crowd.{IsFree}
use Rattle.hall_http.proofs.Crowds.{comes_seated, kept_seated}
use Rattle.hall_http.proofs.Numbers.{is_still}
use Rattle.hall_http.proofs.clients.Clients.seat.Goals as goal

pub turn_away-requires-clause-may : goal.turn_away-requires-clause-may
turn_away-requires-clause-may g c = c.is_free.ensures.taken cc

pub returns-clause-receives : goal.returns-clause-receives
returns-clause-receives g c = let free = c.is_free.ensures.free cc in inl (free.1, refl)

pub returns-clause-there : goal.returns-clause-there
returns-clause-there g c =
    let free = c.is_free.ensures.free cc in
    λ other k at.
    is_still c.args.self.now.places.items c.args.place (Some c.new.result) free.0 other
    (λ same.
    let clash = sym (subst (IsFree c.args.self.now) (sym same) free.1) ∙ at in
    absurd cc) ∙ at

pub returns-clause-admits : goal.returns-clause-admits
returns-clause-admits g c =
    let free = c.is_free.ensures.free cc in (
      comes_seated g.P.Peer.traffic c.args.self.now c.args.place free.0 c.new.result c.args.peer c.new.ensures.peer,
      λ few many turns next kept.
          kept_seated g.P.Peer.traffic few many turns c.args.self.now kept c.args.place free.0 c.new.result free.1
          (ap (λ (p : g.row.P.Denot). (g.P.Peer.traffic p).number) c.new.ensures.peer ∙ next) c.new.ensures.kept,
    )
