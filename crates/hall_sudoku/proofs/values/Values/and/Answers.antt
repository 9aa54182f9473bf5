use Rattle.hall_sudoku.proofs.Bits.{has_and}
use Rattle.hall_sudoku.proofs.values.Values.and.Goals as goal

pub returns : goal.returns
returns c = λ v. rw (← c.self.view_is, ← c.other.view_is) (has_and c.self.inside.bits c.other.inside.bits v)
