use Rattle.hall_sudoku.proofs.Bits.{has_or}
use Rattle.hall_sudoku.proofs.values.Values.or.Goals as goal

pub returns : goal.returns
returns c = λ v. rw (← c.self.view_is, ← c.other.view_is) (has_or c.self.inside.bits c.other.inside.bits v)
