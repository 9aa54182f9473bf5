use Rattle.std.proofs.Common.{ℕ, ◌≡◌, None, length, get_or}
use Rattle.hall_grid.specs.Component.{IsLabelled}
use Rattle.hall_grid.specs.Reached.{IsMarked}
use Rattle.hall_nurikabe.specs.Exit.{NeedsMore}
use Rattle.hall_nurikabe.proofs.exits.growing_groups.Given as goal

abbrev pub invariant-loop-label : goal.invariant-loop-label
invariant-loop-label l = record {
  exact : length l.growing.items ≡ l.label;
  marked : (label : ℕ) → IsMarked l.growing.items label → IsLabelled l.labels label label
      × NeedsMore l.puzzle (get_or l.owners label None) (get_or l.sizes label 0);
}
