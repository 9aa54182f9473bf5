use Rattle.hall_http.proofs.Runs.{runs_compose}
use Rattle.hall_http.proofs.laws.law_runs.Goals as goal

pub returns : goal.returns
returns c = runs_compose
