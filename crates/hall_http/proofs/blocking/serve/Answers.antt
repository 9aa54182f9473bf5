use Rattle.hall_desk.specs.Desk.{kept_by}
use Rattle.hall_desk.proofs.Promises.{unique_solutions, right_answers}
use Rattle.hall_http.proofs.blocking.serve.Goals as goal

pub returns-in_err-routes-clause-unique : goal.returns-in_err-routes-clause-unique
returns-in_err-routes-clause-unique g c = λ h s sane. unique_solutions
    (g.S.ReadStore.content (kept_by c.args.desk.now)).world sane

pub returns-in_err-routes-clause-right : goal.returns-in_err-routes-clause-right
returns-in_err-routes-clause-right g c = λ h s sane. right_answers
    (g.S.ReadStore.content (kept_by c.args.desk.now)).world sane
