use Rattle.hall_desk.proofs.Beside.{plans_stand_beside}
use Rattle.hall_desk.proofs.JoinLemmas.{plans_beside_are_answers}
use Rattle.hall_desk.proofs.laws.law_together.Goals as goal

pub returns-clause-stand : goal.returns-clause-stand
returns-clause-stand c = plans_stand_beside

pub returns-clause-answer : goal.returns-clause-answer
returns-clause-answer c = plans_beside_are_answers
