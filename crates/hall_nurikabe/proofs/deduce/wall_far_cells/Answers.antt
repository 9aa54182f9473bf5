use Rattle.std.proofs.Common.{arith}
use Rattle.hall_nurikabe.proofs.AreForced.{AreForced-set}
use Rattle.hall_nurikabe.proofs.AreStepsLeft.{far_forced}
use Rattle.hall_nurikabe.proofs.deduce.wall_far_cells.Goals as goal
use Rattle.hall_nurikabe.proofs.deduce.wall_far_cells.Goals.{then-left-cell-eq0, else-left-cell-eq0}

pub loop-cell-preserved : goal.loop-cell-preserved
loop-cell-preserved c = elim c.if-left-cell-eq0.branch [
  | then-left-cell-eq0 w ↦
      let all = c.cells-cell-end.ensures.cells in
      rw w.forced-is
      (AreForced-set c.args.position.now.puzzle.now c.args.position.now.partial.now.places c.loop-cell.forced
      c.loop-cell.cell 1 (omega arith) (omega arith)
      (far_forced c.args.position.now.puzzle.now c.args.position.now.kind c.args.position.now.partial.now.places
      c.args.position.now.fits c.cells-cell-end.ensures.board.clues
      c.args.labels.now c.args.sizes.now c.args.owners.now c.requires.groups c.requires.owners c.args.left.now
      c.requires.left c.loop-cell.cell (omega arith)
      w.if-left-cell-eq0.true)
      c.loop-cell.invariant)
  | else-left-cell-eq0 w ↦ rw w.forced-is c.loop-cell.invariant
]
