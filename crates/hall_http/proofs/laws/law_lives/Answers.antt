use Rattle.hall_http.proofs.Lives.{runs_over_are_lives, bytes_of_lives_hide_others, bytes_of_lives_hide_answers}
use Rattle.hall_http.proofs.laws.law_lives.Goals as goal

pub returns-clause-runs : goal.returns-clause-runs
returns-clause-runs c = runs_over_are_lives

pub returns-clause-others : goal.returns-clause-others
returns-clause-others c = bytes_of_lives_hide_others

pub returns-clause-answers : goal.returns-clause-answers
returns-clause-answers c = bytes_of_lives_hide_answers
