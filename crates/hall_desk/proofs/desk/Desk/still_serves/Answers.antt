use Rattle.hall_desk.proofs.Copied.{copies_kept}
use Rattle.hall_desk.proofs.desk.Desk.still_serves.Goals as goal

pub invariant_of-self : goal.invariant_of-self
invariant_of-self g c = copies_kept _ _ c.self.inside.copies c.still_serves.ensures.kept c.self.invariant
