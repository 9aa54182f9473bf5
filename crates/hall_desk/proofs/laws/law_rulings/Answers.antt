use Rattle.hall_desk.proofs.RulingsStay.{rulings_stay}
use Rattle.hall_desk.proofs.RulingAnswered.{ruling_retries_are_answered}
use Rattle.hall_desk.proofs.laws.law_rulings.Goals as goal

pub returns-clause-stay : goal.returns-clause-stay
returns-clause-stay c = rulings_stay

pub returns-clause-answered : goal.returns-clause-answered
returns-clause-answered c = ruling_retries_are_answered
