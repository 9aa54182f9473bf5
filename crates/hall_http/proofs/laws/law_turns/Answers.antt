use Rattle.hall_http.proofs.Twice.{nobody_twice}
use Rattle.hall_http.proofs.laws.law_turns.Goals as goal

pub returns : goal.returns
returns c = nobody_twice
