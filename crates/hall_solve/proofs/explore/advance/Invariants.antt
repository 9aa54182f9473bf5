use Rattle.std.proofs.Common.{◌≡◌, ◌↔◌, ℕ, ◌≤◌, List, length, vec_len}
use Rattle.hall_solve.specs.Question.{Keeps}
use Rattle.hall_solve.specs.Choices.{AreMade, AwaitsTurn, InRange, visits_left}
use Rattle.hall_solve.proofs.explore.advance.Given as goal

-- the choices that are left await what all awaited
abbrev pub invariant-popping : goal.invariant-popping
invariant-popping l = record {
  made : AreMade l.board l.stack.items;
  size : length l.board.places ≡ length l.fn.board.places;
  keeps : Keeps l.board.places l.fn.board.places;
  waiting : (f : List ℕ) → InRange (length l.fn.board.places) l.values f
      → (AwaitsTurn l.fn.board l.fn.stack.items f ↔ AwaitsTurn l.board l.stack.items f);
  paid : visits_left (length l.fn.board.places) l.values l.stack.items ≤ visits_left (length l.fn.board.places) l.values
      l.fn.stack.items;
}

abbrev pub decreases-popping : goal.decreases-popping
decreases-popping l = vec_len l.stack
