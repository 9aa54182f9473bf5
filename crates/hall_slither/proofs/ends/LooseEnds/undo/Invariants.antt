use Rattle.std.proofs.Common.{length}
use Rattle.hall_slither.proofs.ends.LooseEnds.undo.Given as goal

abbrev pub decreases-loop-dot : goal.decreases-loop-dot
decreases-loop-dot l = length l.self.before.items
