use Rattle.hall_policy.specs.Ranges.{IsProtestRow}
use Rattle.hall_check.proofs.EachRow.{each_step, each_done}
use Rattle.hall_check.proofs.ranges.read_protests.Goals as goal

pub loop-row-preserved : goal.loop-row-preserved
loop-row-preserved c =
    each_step (IsProtestRow) c.args.rows.now c.loop-row.row-index c.row-item.result c.loop-row.invariant c.row-item.is
    c.read_protest.ensures

pub returns : goal.returns
returns c =
    each_done (IsProtestRow) c.args.rows.now c.loop-row.row-index c.loop-row.invariant c.loop-row-test.false
