-- What one search found, and how many visits it made.
use Rattle.std.specs.Prelude.{◌≡◌, ◌≤◌, ℕ}
use Rattle.hall_solve.specs.declared.outcome.Outcome.{Outcome}
use Rattle.hall_solve.specs.declared.outcome.Outcome.TheVariants.{GaveUp}
use Rattle.hall_solve.specs.declared.searched.Searched.{Searched}
use Rattle.hall_solve.specs.declared.searched.Visits.{Visits}

-- the number of the visits
abbrev pub visits_made : Visits → ℕ
visits_made visits = visits.count

-- what the search found
abbrev pub outcome_of : Searched → Outcome
outcome_of searched = searched.outcome

-- the visits that the same search made
abbrev pub visits_of : Searched → Visits
visits_of searched = searched.visits

-- the search made at most the budget's visits, and all of them where it gave up
pub record IsSpent (budget : ℕ) (searched : Searched) : Type 0 where
  pub within : visits_made (visits_of searched) ≤ budget
  pub whole : outcome_of searched ≡ GaveUp → visits_made (visits_of searched) ≡ budget
