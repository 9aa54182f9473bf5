use Rattle.hall_grid.proofs.Beside.{right_is}
use Rattle.hall_grid.proofs.neighbour.right.Goals as goal

pub returns-then-cell-size : goal.returns-then-cell-size
returns-then-cell-size c =
    right_is c.args.size c.args.cell c.requires.size.some_cols c.requires.board c.if-cell-size.true
