use Rattle.std.proofs.Common.{subst}
use Rattle.hall_score.specs.Tally.{IsFollowing}
use Rattle.hall_score.proofs.TallyLemmas.{turn_refuses}
use Rattle.hall_score.proofs.tally.TallySinkAnswerRow.take.Goals as goal

pub returns-in-Past-clause-refused : goal.returns-in-Past-clause-refused
returns-in-Past-clause-refused c = λ same. turn_refuses c.args.self.now c.args.row.now
    (subst (IsFollowing c.args.self.now.last c.args.row.now) c.in-Past.is c.following.ensures)
