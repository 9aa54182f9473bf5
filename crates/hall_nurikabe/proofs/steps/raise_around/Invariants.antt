use Rattle.std.proofs.Common.{ℕ, ◌≤◌, get_or}
use Rattle.hall_grid.specs.Reached.{IsMarked}
use Rattle.hall_grid.proofs.Labelling.{AmongFirst}
use Rattle.hall_nurikabe.specs.Steps.{Raises}
use Rattle.hall_nurikabe.proofs.steps.raise_around.Given as goal

abbrev pub invariant-loop-place : goal.invariant-loop-place
invariant-loop-place l = record {
  raises : Raises l.reach l.fn.left l.left;
  beside : (other : ℕ) → AmongFirst l.place-items l.place-index other → IsMarked l.marks other
      → l.reach ≤ get_or l.left other 0;
}
