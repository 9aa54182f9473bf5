use Rattle.hall_desk.proofs.Agreeing.{answers_agree, steps_agree}
use Rattle.hall_desk.proofs.laws.law_steps_agree.Goals as goal

pub returns-clause-answers : goal.returns-clause-answers
returns-clause-answers c = answers_agree

pub returns-clause-steps : goal.returns-clause-steps
returns-clause-steps c = steps_agree
