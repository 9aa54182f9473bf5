use Rattle.hall_tool.specs.WorldText.{undecided_line}
use Rattle.hall_tool.proofs.CheckLines.{line_more}
use Rattle.hall_tool.proofs.world_text.push_puzzles.Goals as goal

pub loop-key-preserved : goal.loop-key-preserved
loop-key-preserved c =
    line_more undecided_line c.args.keys.now c.loop-key.key-index c.key-item.result c.loop-key-test.true
    _ _ _ c.key-item.result c.key-item.is c.loop-key.invariant c.in_ok-push_undecided.ensures
