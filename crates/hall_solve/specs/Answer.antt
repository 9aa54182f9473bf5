-- What a search may answer.
use Rattle.std.specs.Prelude.{◌≡◌, ◌≢◌, ℕ, ◌<◌, ◌≤◌, List, Option}
use Rattle.hall_solve.specs.declared.outcome.Outcome.{Outcome}
use Rattle.hall_solve.specs.declared.outcome.Outcome.TheVariants.{None, One, More, GaveUp}
use Rattle.hall_solve.specs.Question.{Question, Solves, open_places, plain_tree}

-- the answer is true of the fillings that solve
abbrev pub IsTrueOf : (List ℕ → Type 0) → Outcome → Type 0
IsTrueOf solves None = (f : List ℕ) → ¬ solves f
IsTrueOf solves (One g) = solves g × ((f : List ℕ) → solves f → f ≡ g)
IsTrueOf solves (More a b) = solves a × solves b × (a ≢ b)
IsTrueOf solves GaveUp = Unit {0}

-- the fewest visits that an answer takes: two different fillings are two visits below the first one
abbrev pub fewest_visits : Outcome → ℕ
fewest_visits None = 1
fewest_visits (One g) = 1
fewest_visits (More a b) = 3
fewest_visits GaveUp = 0

-- what may be answered within the budget
pub record OutcomeOf (q : Question) (start : List (Option ℕ)) (budget : ℕ) (o : Outcome) : Type 0 where
  pub answer : IsTrueOf (Solves q start) o
  pub gives_up_late : o ≡ GaveUp → budget < plain_tree q.values (open_places start)
  pub within_budget : fewest_visits o ≤ budget
