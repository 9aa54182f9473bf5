use Rattle.hall_slither.specs.Trial.{AreIn}
use Rattle.hall_slither.proofs.trial.agreed.Given as goal

abbrev pub invariant-loop-setting : goal.invariant-loop-setting
invariant-loop-setting l = AreIn l.first l.second l.settings.items
