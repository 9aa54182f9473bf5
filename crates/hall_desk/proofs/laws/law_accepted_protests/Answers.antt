use Rattle.hall_desk.proofs.ProtestRetries.{accepted_protests_stay}
use Rattle.hall_desk.proofs.ProtestAnswered.{protest_retries_are_answered}
use Rattle.hall_desk.proofs.laws.law_accepted_protests.Goals as goal

pub returns-clause-stay : goal.returns-clause-stay
returns-clause-stay c = accepted_protests_stay

pub returns-clause-answered : goal.returns-clause-answered
returns-clause-answered c = protest_retries_are_answered
