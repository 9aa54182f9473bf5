use Rattle.hall_sudoku.proofs.Bits.{has_test}
use Rattle.hall_sudoku.proofs.values.Values.contains.Goals as goal

pub returns : goal.returns
returns c = has_test c.self.inside.bits c.args.self c.args.value c.self.view_is c.requires
