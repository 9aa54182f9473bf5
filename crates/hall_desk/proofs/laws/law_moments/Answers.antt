use Rattle.hall_desk.proofs.Finality.{answers_stay_in_time}
use Rattle.hall_desk.proofs.laws.law_moments.Goals as goal

pub returns : goal.returns
returns c = answers_stay_in_time
