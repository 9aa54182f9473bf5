use Rattle.std.proofs.Common.{refl, inl}
use Rattle.hall_desk.specs.Desk.{kept_by}
use Rattle.hall_desk.proofs.Promises.{unique_solutions, right_answers}
use Rattle.hall_http.specs.declared.form.FormFault.TheVariants as fault
use Rattle.hall_http.proofs.Requests.{fault_answers}
use Rattle.hall_http.proofs.answer.answer_bytes.Goals as goal

pub returns-in-Some-clause-quiet : goal.returns-in-Some-clause-quiet
returns-in-Some-clause-quiet g c = c.answer_raw_request.ensures.quiet c.args.bytes.now c.in-Some.ensures

pub returns-in-Some-clause-answers : goal.returns-in-Some-clause-answers
returns-in-Some-clause-answers g c = c.answer_raw_request.ensures.answers c.args.bytes.now c.in-Some.ensures

pub returns-in-Some-clause-untouched : goal.returns-in-Some-clause-untouched
returns-in-Some-clause-untouched g c = c.answer_raw_request.ensures.untouched c.args.bytes.now c.in-Some.ensures

pub returns-in-Some-clause-unique : goal.returns-in-Some-clause-unique
returns-in-Some-clause-unique g c = λ h s sane.
    unique_solutions (g.S.ReadStore.content (kept_by c.answer_raw_request.new.desk)).world
    (c.answer_raw_request.ensures.sane h s sane)

pub returns-in-Some-clause-right : goal.returns-in-Some-clause-right
returns-in-Some-clause-right g c = λ h s sane.
    right_answers (g.S.ReadStore.content (kept_by c.answer_raw_request.new.desk)).world
    (c.answer_raw_request.ensures.sane h s sane)

pub returns-in-None-clause-answers : goal.returns-in-None-clause-answers
returns-in-None-clause-answers g c = λ h.
    fault_answers (g.S.ReadStore.content (kept_by c.args.desk.now)) c.args.moment c.args.bytes.now _ fault.NotWhole
    (inl (c.in-None.ensures, refl)) c.answer_fault.ensures.told

pub returns-in-None-clause-unique : goal.returns-in-None-clause-unique
returns-in-None-clause-unique g c = λ h s sane. unique_solutions (g.S.ReadStore.content (kept_by c.args.desk.now)).world
    sane

pub returns-in-None-clause-right : goal.returns-in-None-clause-right
returns-in-None-clause-right g c = λ h s sane. right_answers (g.S.ReadStore.content (kept_by c.args.desk.now)).world
    sane

pub returns-in-Some-clause-stops : goal.returns-in-Some-clause-stops
returns-in-Some-clause-stops g c = c.answer_raw_request.ensures.stops c.args.bytes.now c.in-Some.ensures
