use Rattle.std.proofs.Common.{ap}
use Rattle.hall_desk.specs.Desk.{kept_by}
use Rattle.hall_http.proofs.Joined.{stores_all, stores_none, stores_refused}
use Rattle.hall_http.proofs.joining.store_joint.Goals as goal

pub returns-then-not-serves_on : goal.returns-then-not-serves_on
returns-then-not-serves_on g c =
    stores_none c.args.joint (g.S.ReadStore.content (kept_by c.args.desk.now))
    (g.S.ReadStore.content (kept_by c.serves_on.new.desk)) c.serves_on.ensures.kept

pub returns-in-Ok : goal.returns-in-Ok
returns-in-Ok g c =
    let made = c.in-Ok.ensures in
    stores_all c.args.joint (g.S.ReadStore.content (kept_by c.args.desk.now))
    (g.S.ReadStore.content (kept_by c.serves_on.new.desk)) (g.S.ReadStore.content (kept_by c.commit_all.new.self))
    c.serves_on.ensures.kept (c.serves_on.ensures.serves c.if-not-serves_on.false) made.leads made.once made.stops tt
    (λ none. ap g.S.ReadStore.content (made.nothing none).1) made.made

pub returns-in-Err : goal.returns-in-Err
returns-in-Err g c =
    let made = c.in-Err.ensures in
    stores_refused c.args.joint (g.S.ReadStore.content (kept_by c.args.desk.now))
    (g.S.ReadStore.content (kept_by c.serves_on.new.desk)) (g.S.ReadStore.content (kept_by c.commit_all.new.self))
    c.serves_on.ensures.kept (c.serves_on.ensures.serves c.if-not-serves_on.false) made.leads made.once made.stops c.in-Err.field-0
    (g.S.ReadStore.content (kept_by c.refused_end.new.desk)) c.refused_end.result
    (λ none. let ok = (made.nothing none).0 in cc) made.made c.refused_end.ensures.kept c.refused_end.ensures.left
    c.refused_end.ensures.opened
