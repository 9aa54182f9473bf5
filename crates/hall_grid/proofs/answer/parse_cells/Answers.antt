use Rattle.hall_grid.proofs.Values.{cells_values}
use Rattle.hall_grid.proofs.answer.parse_cells.Goals as goal

pub returns-in-None : goal.returns-in-None
returns-in-None c = λ f a.
    let none = rw (c.in-None.is, c.kind.ensures.kind, c.size.ensures.size) at c.in_ok-found.ensures in
    none f (cells_values c.args.puzzle.now c.args.text.now f c.requires a)
