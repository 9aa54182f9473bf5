use Rattle.std.specs.Prelude.{All}
use Rattle.hall_slither.specs.Trial.{IsHeld}
use Rattle.hall_slither.proofs.trial.copy_since.Given as goal

abbrev pub invariant-loop-side : goal.invariant-loop-side
invariant-loop-side l = All (IsHeld l.partial.places) l.settings.items
