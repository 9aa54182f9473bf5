use Rattle.hall_desk.specs.Desk.{kept_by}
use Rattle.hall_desk.proofs.Promises.{unique_solutions, right_answers}
use Rattle.hall_http.proofs.server.serve_all.Goals as goal

pub returns-in_err-routes-clause-unique : goal.returns-in_err-routes-clause-unique
returns-in_err-routes-clause-unique g c = λ h s sane. unique_solutions
    (g.S.ReadStore.content (kept_by c.args.desk.now)).world sane

pub returns-in_err-routes-clause-right : goal.returns-in_err-routes-clause-right
returns-in_err-routes-clause-right g c = λ h s sane. right_answers
    (g.S.ReadStore.content (kept_by c.args.desk.now)).world sane

pub returns-in_err-clients-clause-unique : goal.returns-in_err-clients-clause-unique
returns-in_err-clients-clause-unique g c = λ h s sane. unique_solutions
    (g.S.ReadStore.content (kept_by c.args.desk.now)).world sane

pub returns-in_err-clients-clause-right : goal.returns-in_err-clients-clause-right
returns-in_err-clients-clause-right g c = λ h s sane. right_answers
    (g.S.ReadStore.content (kept_by c.args.desk.now)).world sane

pub returns-clause-unique : goal.returns-clause-unique
returns-clause-unique g c = λ h s sane.
    unique_solutions (g.S.ReadStore.content (kept_by c.serve_clients-end.new.desk)).world
    (c.serve_clients-end.ensures.sane h s sane)

pub returns-clause-right : goal.returns-clause-right
returns-clause-right g c = λ h s sane.
    right_answers (g.S.ReadStore.content (kept_by c.serve_clients-end.new.desk)).world
    (c.serve_clients-end.ensures.sane h s sane)

pub returns-in_err-held-clause-unique : goal.returns-in_err-held-clause-unique
returns-in_err-held-clause-unique g c = λ h s sane. unique_solutions
    (g.S.ReadStore.content (kept_by c.args.desk.now)).world sane

pub returns-in_err-held-clause-right : goal.returns-in_err-held-clause-right
returns-in_err-held-clause-right g c = λ h s sane. right_answers
    (g.S.ReadStore.content (kept_by c.args.desk.now)).world sane

pub serve_clients-end-requires-clause-none : goal.serve_clients-end-requires-clause-none
serve_clients-end-requires-clause-none g c = c.in_ok-clients.ensures.kept (g.N.Sockets.said c.args.sockets.now).count
