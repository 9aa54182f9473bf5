use Rattle.hall_sudoku.proofs.Bits.{has_least}
use Rattle.hall_sudoku.proofs.values.Values.least.Goals as goal

pub returns-clause-some : goal.returns-clause-some
returns-clause-some c = rw (← c.self.view_is) (has_least c.self.inside.bits c.if-self-eq0.false c.self.invariant)
