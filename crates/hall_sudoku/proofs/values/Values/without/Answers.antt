use Rattle.hall_sudoku.proofs.Bits.{has_without}
use Rattle.hall_sudoku.proofs.values.Values.without.Goals as goal

pub returns : goal.returns
returns c = λ v. rw (← c.self.view_is, ← c.other.view_is) (has_without c.self.inside.bits c.other.inside.bits v
    c.self.invariant c.other.invariant)
