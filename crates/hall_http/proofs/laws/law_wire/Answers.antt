use Rattle.hall_http.proofs.Wire.{wire_hides_others, wire_hides_answers, wire_hides_others_on, wire_hides_answers_on}
use Rattle.hall_http.proofs.Sent.{sent_hides_others}
use Rattle.hall_http.proofs.laws.law_wire.Goals as goal

pub returns-clause-others : goal.returns-clause-others
returns-clause-others c = wire_hides_others

pub returns-clause-answers : goal.returns-clause-answers
returns-clause-answers c = wire_hides_answers

pub returns-clause-others_on : goal.returns-clause-others_on
returns-clause-others_on c = wire_hides_others_on

pub returns-clause-answers_on : goal.returns-clause-answers_on
returns-clause-answers_on c = wire_hides_answers_on

pub returns-clause-sent : goal.returns-clause-sent
returns-clause-sent c = sent_hides_others
