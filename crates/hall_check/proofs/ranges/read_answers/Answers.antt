use Rattle.hall_policy.specs.Ranges.{IsAnswerRow}
use Rattle.hall_check.proofs.EachRow.{each_step, each_done}
use Rattle.hall_check.proofs.ranges.read_answers.Goals as goal

pub loop-row-preserved : goal.loop-row-preserved
loop-row-preserved c =
    each_step (IsAnswerRow) c.args.rows.now c.loop-row.row-index c.row-item.result c.loop-row.invariant c.row-item.is
    c.read_answer.ensures

pub returns : goal.returns
returns c =
    each_done (IsAnswerRow) c.args.rows.now c.loop-row.row-index c.loop-row.invariant c.loop-row-test.false
