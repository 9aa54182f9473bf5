use Rattle.hall_grid.proofs.Beside.{left_is}
use Rattle.hall_grid.proofs.neighbour.left.Goals as goal

pub returns-then-cell-size-gt0 : goal.returns-then-cell-size-gt0
returns-then-cell-size-gt0 c =
    left_is c.args.size c.args.cell c.requires.size.some_cols c.requires.board c.if-cell-size-gt0.true
