use Rattle.std.proofs.Common.{refl, inl, inr}
use Rattle.hall_http.proofs.Crowds.{kept_away}
use Rattle.hall_http.proofs.Peers.{later_same}
use Rattle.hall_http.proofs.clients.Clients.turn_away.Goals as goal

pub returns-clause-admits : goal.returns-clause-admits
returns-clause-admits g c = (
  λ other l at. inl (l, at, later_same (g.P.Peer.traffic l.peer)),
  λ few many turns next kept.
      kept_away g.P.Peer.traffic few many turns c.args.self.now kept _ c.new-closed.result c.args.why c.args.place
      (rw c.new-closed.ensures next) refl c.and-self.ensures (rw c.new-closed.ensures c.requires.untouched),
)

pub returns-clause-there : goal.returns-clause-there
returns-clause-there g c = λ other k at. at

pub returns-clause-receives : goal.returns-clause-receives
returns-clause-receives g c =
    inr (c.new-closed.result, c.args.why, c.new-closed.ensures, c.requires.may, c.and-self.ensures)
