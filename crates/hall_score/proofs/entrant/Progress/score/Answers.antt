use Rattle.std.proofs.Common.{refl}
use Rattle.hall_score.proofs.ProgressLemmas.{score_work}
use Rattle.hall_score.proofs.entrant.Progress.score.Goals as goal

pub returns-clause-score : goal.returns-clause-score
returns-clause-score c = λ round rows is. score_work round rows c.args.self.now _ is refl refl c.max.ensures
