use Rattle.hall_policy.specs.Ranges.{IsPuzzleRow}
use Rattle.hall_check.proofs.EachRow.{each_step, each_done}
use Rattle.hall_check.proofs.ranges.read_puzzles.Goals as goal

pub loop-row-preserved : goal.loop-row-preserved
loop-row-preserved c =
    each_step (IsPuzzleRow) c.args.rows.now c.loop-row.row-index c.row-item.result c.loop-row.invariant c.row-item.is
    c.read_puzzle.ensures

pub returns : goal.returns
returns c =
    each_done (IsPuzzleRow) c.args.rows.now c.loop-row.row-index c.loop-row.invariant c.loop-row-test.false
