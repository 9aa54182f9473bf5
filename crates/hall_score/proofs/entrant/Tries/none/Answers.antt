use Rattle.std.proofs.Common.{refl}
use Rattle.hall_score.proofs.Tried.{no_tries}
use Rattle.hall_score.proofs.entrant.Tries.none.Goals as goal

pub returns-clause-tries : goal.returns-clause-tries
returns-clause-tries c = λ round. no_tries round _ refl refl c.no_score.ensures
