use Rattle.hall_desk.proofs.Retries.{accepted_answers_stay}
use Rattle.hall_desk.proofs.Answered.{retries_are_answered}
use Rattle.hall_desk.proofs.laws.law_accepted_answers.Goals as goal

pub returns-clause-stay : goal.returns-clause-stay
returns-clause-stay c = accepted_answers_stay

pub returns-clause-answered : goal.returns-clause-answered
returns-clause-answered c = retries_are_answered
