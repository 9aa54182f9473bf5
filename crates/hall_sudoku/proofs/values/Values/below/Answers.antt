use Rattle.hall_sudoku.proofs.Bits.{has_below}
use Rattle.hall_sudoku.proofs.values.Values.below.Goals as goal

pub returns : goal.returns
returns c = λ v. has_below c.args.count v c.requires
