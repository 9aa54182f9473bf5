use Rattle.hall_desk.specs.Desk.{kept_by}
use Rattle.hall_http.proofs.Joined.{joined_group}
use Rattle.hall_http.proofs.responder.DeskResponder.store_joined.Goals as goal

pub returns : goal.returns
returns g c = λ xs goes some joined shut opens.
    joined_group (λ desk. g.S.ReadStore.content (kept_by desk)) xs c.args.joint c.args.self.now c.store_joint-end.new.desk
    c.store_joint-end.result goes some joined c.store_joint-end.ensures c.at_rest.ensures shut opens
