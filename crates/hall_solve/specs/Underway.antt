-- How far a search has come: what it found, and what is still ahead.
use Rattle.std.specs.Prelude.{◌≡◌, ◌≢◌, ◌⊎◌, ℕ, ◌+◌, ◌≤◌, List, [], Option, Some}
use Rattle.hall_solve.specs.declared.choice.Choice.{Choice}
use Rattle.hall_solve.specs.declared.outcome.Outcome.{Outcome}
use Rattle.hall_solve.specs.declared.outcome.Outcome.TheVariants.{GaveUp}
use Rattle.hall_solve.specs.Answer.{IsTrueOf, fewest_visits}
use Rattle.hall_solve.specs.Question.{Question, IsQuestionFilling, IsPartial, Extends, Solves, open_places, plain_tree}
use Rattle.hall_solve.specs.Trail.{Trailed, IsTrailed}
use Rattle.hall_solve.specs.Choices.{AreMade, IsAhead, visits_ahead}

-- between two visits: each solution is the one that was found, or ahead; the one that was found is not ahead
pub record IsUnderWay (q : Question) (start : List (Option ℕ)) (b : Trailed) (stack : List Choice)
    (got : Option (List ℕ)) (visits : ℕ) : Type 0 where
  pub partial : IsPartial q b.places
  pub trailed : IsTrailed b
  pub made : AreMade b stack
  pub solutions : (f : List ℕ) → Solves q start f → (got ≡ Some f) ⊎ IsAhead b stack f
  pub found : (f : List ℕ) → got ≡ Some f → Solves q start f × (IsAhead b stack f → ⊥) × (2 ≤ visits)
  pub ahead : (f : List ℕ) → IsQuestionFilling q f → IsAhead b stack f → Extends f start
  pub paid : visits + visits_ahead q.values b stack ≤ plain_tree q.values (open_places start)
  pub begun : visits ≡ 0 → stack ≡ []

-- what a search told at its end, after so many visits: it is true of the fillings that solve, and no giving up
pub record IsOutcomeTold (q : Question) (start : List (Option ℕ)) (visits : ℕ) (o : Outcome) : Type 0 where
  pub answer : IsTrueOf (Solves q start) o
  pub no_giving_up : o ≢ GaveUp
  pub enough : fewest_visits o ≤ visits
