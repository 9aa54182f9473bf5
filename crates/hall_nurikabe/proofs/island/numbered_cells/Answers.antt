use Rattle.std.proofs.Common.{arith}
use Rattle.hall_grid.specs.Board.{cells}
use Rattle.hall_grid.specs.Nurikabe.{IsNumbered}
use Rattle.hall_nurikabe.proofs.Marks.{Marks-none, Marks-push, Marks-whole, numbered_below, numbered_clue, through}
use Rattle.hall_nurikabe.proofs.island.numbered_cells.Goals as goal

pub loop-cell-init : goal.loop-cell-init
loop-cell-init c = rw c.new-marks.ensures.items (Marks-none (IsNumbered c.args.puzzle.now))

pub loop-cell-preserved : goal.loop-cell-preserved
loop-cell-preserved c =
    rw c.in_ok-push.ensures.items
    (Marks-push (IsNumbered c.args.puzzle.now) c.loop-cell.cell c.loop-cell.marks.items c.is_number.result
    (through c.is_number.ensures (numbered_clue c.args.puzzle.now c.loop-cell.cell c.clue.result c.clue.ensures))
    c.loop-cell.invariant)

pub returns : goal.returns
returns c =
    let whole = c.cells-cell-end.ensures.board.clues in
    let all = c.cells-cell-end.ensures.cells in
    Marks-whole (IsNumbered c.args.puzzle.now) c.loop-cell.cell (cells c.args.puzzle.now.size) c.loop-cell.marks.items
    (omega arith)
    (λ cell h. let low = numbered_below c.args.puzzle.now cell h in omega arith) c.loop-cell.invariant
