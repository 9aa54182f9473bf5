use Rattle.hall_grid.proofs.Beside.{above_is}
use Rattle.hall_grid.proofs.neighbour.above.Goals as goal

pub returns-then-cell-size : goal.returns-then-cell-size
returns-then-cell-size c =
    above_is c.args.size c.args.cell c.requires.size.some_cols c.requires.board c.if-cell-size.true
