use Rattle.std.proofs.Common.{◌≤◌, take}
use Rattle.hall_check.specs.States.{AreStatesTold}
use Rattle.hall_check.proofs.puzzle_states.ask_states.Given as goal

-- what is told of the puzzles so far
abbrev pub invariant-loop-row : goal.invariant-loop-row
invariant-loop-row l = record {
  few : l.states.found.count ≤ l.row-index;
  told : AreStatesTold l.budget (take l.row-index l.rows) l.states;
}
