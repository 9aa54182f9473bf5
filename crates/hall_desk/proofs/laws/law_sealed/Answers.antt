use Rattle.hall_desk.proofs.StepsAlike.{sealed_verdicts}
use Rattle.hall_desk.proofs.SealedAlike.{sealed_answers}
use Rattle.hall_desk.proofs.SealedRun.{sealed_runs, lives_hide_answers}
use Rattle.hall_desk.proofs.SealedLives.{histories_hide_answers}
use Rattle.hall_desk.proofs.Certified.{certified_exchanged}
use Rattle.hall_desk.proofs.laws.law_sealed.Goals as goal

pub returns-clause-verdicts : goal.returns-clause-verdicts
returns-clause-verdicts c = sealed_verdicts

pub returns-clause-runs : goal.returns-clause-runs
returns-clause-runs c = sealed_runs

pub returns-clause-lives : goal.returns-clause-lives
returns-clause-lives c = lives_hide_answers

pub returns-clause-answered : goal.returns-clause-answered
returns-clause-answered c = sealed_answers

pub returns-clause-searches : goal.returns-clause-searches
returns-clause-searches c = certified_exchanged

pub returns-clause-histories : goal.returns-clause-histories
returns-clause-histories c = histories_hide_answers
