use Rattle.hall_policy.proofs.Deciding.{decisions_agree}
use Rattle.hall_policy.proofs.LoneDecisions.{entrants_decided_alike}
use Rattle.hall_policy.proofs.laws.law_decisions.Goals as goal

pub returns-clause-one : goal.returns-clause-one
returns-clause-one c = decisions_agree

pub returns-clause-entrants : goal.returns-clause-entrants
returns-clause-entrants c = entrants_decided_alike
