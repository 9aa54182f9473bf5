use Rattle.std.proofs.Common.{arith}
use Rattle.std.proofs.lemmas.Int.{ints, to_z-of_z}
use Rattle.std.proofs.lemmas.List.Sums.{fold_more}
use Rattle.hall_score.proofs.points.protest_points.Goals as goal

pub loop-row-preserved : goal.loop-row-preserved
loop-row-preserved c =
    (grind (arith, ints, to_z-of_z, fold_more), omega (arith, ints), omega (arith, ints))
