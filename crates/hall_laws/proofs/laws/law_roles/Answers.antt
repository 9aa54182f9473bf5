use Rattle.hall_laws.proofs.Roles.{puzzles_hidden, verdicts_hidden}
use Rattle.hall_laws.proofs.RolesRuns.{puzzles_hidden_in_runs}
use Rattle.hall_laws.proofs.RolesSealed.{verdicts_hidden_in_runs}
use Rattle.hall_laws.proofs.laws.law_roles.Goals as goal

pub returns-clause-puzzles : goal.returns-clause-puzzles
returns-clause-puzzles c = puzzles_hidden

pub returns-clause-verdicts : goal.returns-clause-verdicts
returns-clause-verdicts c = verdicts_hidden

pub returns-clause-runs : goal.returns-clause-runs
returns-clause-runs c = puzzles_hidden_in_runs

pub returns-clause-sealed : goal.returns-clause-sealed
returns-clause-sealed c = verdicts_hidden_in_runs
