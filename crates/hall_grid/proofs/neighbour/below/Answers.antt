use Rattle.hall_grid.proofs.Beside.{below_is_cell}
use Rattle.hall_grid.proofs.neighbour.below.Goals as goal

pub returns-then-cell-size : goal.returns-then-cell-size
returns-then-cell-size c =
    below_is_cell c.args.size c.args.cell c.requires.size.some_cols c.requires.board c.if-cell-size.true
