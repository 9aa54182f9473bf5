use Rattle.std.proofs.Common.{◌≡◌, ℕ, ◌≤◌, List, length}
use Rattle.hall_solve.specs.Question.{IsPartial, IsQuestionFilling}
use Rattle.hall_solve.specs.Choices.{AreMade, AwaitsTurn, visits_left}
use Rattle.hall_solve.proofs.explore.turn.Given as goal

-- what still awaits its turn, and what no value refused so far took away
abbrev pub invariant-turning : goal.invariant-turning
invariant-turning g l =
    let q = g.R.Rules.question l.rules in
    record {
      partial : IsPartial q l.board.places;
      made : AreMade l.board l.stack.items;
      size : length l.board.places ≡ length l.fn.board.places;
      waited : (f : List ℕ) → IsQuestionFilling q f → AwaitsTurn l.board l.stack.items f
          → AwaitsTurn l.fn.board l.fn.stack.items f;
      waits : (f : List ℕ) → IsQuestionFilling q f → q.right f → AwaitsTurn l.fn.board l.fn.stack.items f
          → AwaitsTurn l.board l.stack.items f;
      paid : visits_left (length l.fn.board.places) q.values l.stack.items ≤ visits_left (length l.fn.board.places)
          q.values l.fn.stack.items;
    }

abbrev pub decreases-turning : goal.decreases-turning
decreases-turning g l = visits_left (length l.board.places) (g.R.Rules.question l.rules).values l.stack.items
