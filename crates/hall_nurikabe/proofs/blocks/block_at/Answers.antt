use Rattle.hall_nurikabe.proofs.Block.{MakePool-at}
use Rattle.hall_nurikabe.proofs.blocks.block_at.Goals as goal

pub returns-then-cell-size-2 : goal.returns-then-cell-size-2
returns-then-cell-size-2 c = MakePool-at c.args.size c.args.cell c.if-cell-size.true c.if-cell-size-2.true
