use Rattle.hall_desk.specs.Desk.{kept_by}
use Rattle.hall_http.proofs.Joined.{none_joined}
use Rattle.hall_http.proofs.responder.DeskResponder.gather.Goals as goal

pub returns : goal.returns
returns g c = rw c.new.ensures (none_joined (λ desk. g.S.ReadStore.content (kept_by desk)) c.args.self.now)
