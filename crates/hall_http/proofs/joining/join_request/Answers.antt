use Rattle.std.proofs.Common.{arith}
use Rattle.hall_desk.specs.Desk.{kept_by}
use Rattle.hall_desk.specs.Together.{IsPlanBeside}
use Rattle.hall_http.proofs.Joined.{takes_joins}
use Rattle.hall_http.proofs.joining.join_request.Goals as goal

pub returns-in-Ok-Some-clause-joined : goal.returns-in-Ok-Some-clause-joined
returns-in-Ok-Some-clause-joined g c =
    let beside : IsPlanBeside (g.S.ReadStore.content (kept_by c.plan_beside.new.self)) c.args.moment c.args.request.now
    c.args.joint.now c.in-Ok-Some.plan = rw c.in-Ok-Some.field-0-is at c.in-Ok-Some.ensures.planned in
    takes_joins (g.S.ReadStore.content (kept_by c.plan_beside.new.self)) c.args.moment c.args.request.now
    c.in-Ok-Some.plan c.args.joint.now c.take_reply.result c.take_reply.new.joint (record {
      moment = (omega arith, omega (arith, c.get-moment.ensures.value, c.get-moment.ensures.most));
      request = c.in_range.ensures;
    }) (c.is_nobodys.ensures.others c.if-is_nobodys.false) beside c.take_reply.ensures
