use Rattle.hall_desk.proofs.OthersAlike.{others_hidden}
use Rattle.hall_desk.proofs.OthersRun.{others_hidden_in_runs, lives_hide_others}
use Rattle.hall_desk.proofs.OthersLives.{histories_hide_others}
use Rattle.hall_desk.proofs.AnsweredRuns.{runs_are_answered}
use Rattle.hall_desk.proofs.Certified.{certified_without_others}
use Rattle.hall_desk.proofs.laws.law_others.Goals as goal

pub returns-clause-others : goal.returns-clause-others
returns-clause-others c = others_hidden_in_runs

pub returns-clause-lives : goal.returns-clause-lives
returns-clause-lives c = lives_hide_others

pub returns-clause-answered : goal.returns-clause-answered
returns-clause-answered c = others_hidden

pub returns-clause-runs : goal.returns-clause-runs
returns-clause-runs c = runs_are_answered

pub returns-clause-searches : goal.returns-clause-searches
returns-clause-searches c = certified_without_others

pub returns-clause-histories : goal.returns-clause-histories
returns-clause-histories c = histories_hide_others
