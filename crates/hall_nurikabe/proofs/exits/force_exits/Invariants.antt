use Rattle.hall_nurikabe.specs.Forced.{AreForced}
use Rattle.hall_nurikabe.proofs.exits.force_exits.Given as goal

abbrev pub invariant-loop-label : goal.invariant-loop-label
invariant-loop-label l = AreForced l.position.puzzle.now l.position.partial.now.places l.forced
