use Rattle.hall_sudoku.proofs.Bits.{has_of}
use Rattle.hall_sudoku.proofs.values.Values.of.Goals as goal

pub returns : goal.returns
returns c = λ v. has_of c.args.value v c.requires
