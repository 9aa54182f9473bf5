use Rattle.std.proofs.Common.{◌≡◌, rules, Err}
use Rattle.hall_http.specs.declared.fault.ReplayFault.TheVariants as fault
use Rattle.hall_desk.specs.Desk.{kept_by}
use Rattle.hall_desk.proofs.Promises.{unique_solutions, right_answers}
use Rattle.hall_http.specs.Replay.{exchanges_of_records}
use Rattle.hall_http.proofs.Runs.{runs_sane}
use Rattle.hall_http.proofs.Turns.{unbegun}
use Rattle.hall_http.proofs.session.replay.Goals as goal

pub returns-in_err-routes-clause-replayed : goal.returns-in_err-routes-clause-replayed
returns-in_err-routes-clause-replayed g c =
    let ends : c.from_residual.result ≡ Err fault.Memory = search rules in rw ends
    (unbegun g.S.ReadStore.content _ _ _ _ _ _ c.at_rest.ensures)

pub returns-in_err-routes-clause-unique : goal.returns-in_err-routes-clause-unique
returns-in_err-routes-clause-unique g c = λ h s sane. unique_solutions
    (g.S.ReadStore.content (kept_by c.args.desk.now)).world sane

pub returns-in_err-routes-clause-right : goal.returns-in_err-routes-clause-right
returns-in_err-routes-clause-right g c = λ h s sane. right_answers
    (g.S.ReadStore.content (kept_by c.args.desk.now)).world sane

pub returns-clause-sane : goal.returns-clause-sane
returns-clause-sane g c =
    let replayed = c.answer_records.ensures in
    runs_sane (g.S.ReadStore.content (kept_by c.args.desk.now)) (exchanges_of_records replayed.records)
    (g.S.ReadStore.content (kept_by c.answer_records.new.desk)) replayed.run

pub returns-clause-unique : goal.returns-clause-unique
returns-clause-unique g c = λ h s sane.
    let replayed = c.answer_records.ensures in
    unique_solutions (g.S.ReadStore.content (kept_by c.answer_records.new.desk)).world
    (runs_sane (g.S.ReadStore.content (kept_by c.args.desk.now)) (exchanges_of_records replayed.records)
    (g.S.ReadStore.content (kept_by c.answer_records.new.desk)) replayed.run h s sane)

pub returns-clause-right : goal.returns-clause-right
returns-clause-right g c = λ h s sane.
    let replayed = c.answer_records.ensures in
    right_answers (g.S.ReadStore.content (kept_by c.answer_records.new.desk)).world
    (runs_sane (g.S.ReadStore.content (kept_by c.args.desk.now)) (exchanges_of_records replayed.records)
    (g.S.ReadStore.content (kept_by c.answer_records.new.desk)) replayed.run h s sane)
