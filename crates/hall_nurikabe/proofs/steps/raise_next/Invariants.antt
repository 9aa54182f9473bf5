use Rattle.std.proofs.Common.{ℕ, ◌+◌, ◌≡◌, ◌<◌, ◌≤◌, get_or}
use Rattle.hall_grid.specs.Board.{Touch}
use Rattle.hall_grid.specs.Reached.{IsMarked}
use Rattle.hall_nurikabe.specs.Steps.{Raises}
use Rattle.hall_nurikabe.proofs.steps.raise_next.Given as goal

abbrev pub invariant-loop-cell : goal.invariant-loop-cell
invariant-loop-cell l = record {
  raises : Raises l.reach l.fn.left l.left;
  bound : l.most ≤ l.reach;
  none : (i : ℕ) → i < l.cell → get_or l.left i 0 ≤ l.reach → get_or l.left i 0 ≤ l.most;
  done : (a b : ℕ) → a < l.cell → Touch l.size a b → IsMarked l.marks b → get_or l.left a 0 ≡ l.reach + 1
      → l.reach ≤ get_or l.left b 0;
}
