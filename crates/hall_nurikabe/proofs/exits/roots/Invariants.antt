use Rattle.std.proofs.Common.{ℕ, ◌≡◌, length}
use Rattle.hall_grid.specs.Component.{IsLabelled}
use Rattle.hall_grid.specs.Reached.{IsMarked}
use Rattle.hall_nurikabe.proofs.exits.roots.Given as goal

abbrev pub invariant-loop-label : goal.invariant-loop-label
invariant-loop-label l = record {
  exact : length l.marks.items ≡ l.label;
  marked : (label : ℕ) → IsMarked l.marks.items label → IsLabelled l.labels label label;
}
