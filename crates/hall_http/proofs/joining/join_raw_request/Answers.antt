use Rattle.std.proofs.Common.{Ok}
use Rattle.hall_desk.specs.Desk.{kept_by}
use Rattle.hall_http.proofs.Joined.{joins_one}
use Rattle.hall_http.proofs.Requests.{asked_of}
use Rattle.hall_http.proofs.joining.join_raw_request.Goals as goal

pub returns-in-Ok-clause-joined : goal.returns-in-Ok-clause-joined
returns-in-Ok-clause-joined g c = λ xs bytes lent joined.
    joins_one (λ desk. g.S.ReadStore.content (kept_by desk)) xs c.args.joint.now c.args.moment bytes c.in-Ok.request
    c.join_request.result c.join_request.new.joint c.args.desk.now c.join_request.new.desk
    (asked_of bytes c.args.raw.now (Ok c.in-Ok.request) lent c.in-Ok.ensures) c.join_request.ensures.kept
    c.join_request.ensures.joined joined
