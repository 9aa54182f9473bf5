-- A search that pauses, and what came of going on with it.
use Rattle.std.specs.Prelude.{◌≡◌, ℕ, ◌<◌, ◌≤◌, List, Option}
use Rattle.hall_solve.specs.declared.searched.Searched.{Searched}
use Rattle.hall_solve.specs.declared.paused.Search.{Search}
use Rattle.hall_solve.specs.declared.paused.Searching.{Searching}
use Rattle.hall_solve.specs.declared.paused.Searching.TheVariants.{Ended, Paused}
use Rattle.hall_solve.specs.Question.{Question}
use Rattle.hall_solve.specs.Answer.{OutcomeOf, fewest_visits}
use Rattle.hall_solve.specs.Progress.{IsWalkAt}
use Rattle.hall_solve.specs.Searched.{visits_made, outcome_of, visits_of, IsSpent}

-- where the search started
abbrev pub started_at : Search → List (Option ℕ)
started_at search = search.start.places

-- the most visits that it may make
abbrev pub budget_of : Search → ℕ
budget_of search = search.budget

-- the search is under way, after so many visits
pub record IsSearchAt (q : Question) (visits : ℕ) (search : Search) : Type 0 where
  pub walk : IsWalkAt q search.start.places visits search.walk
  pub within : visits ≤ search.budget

-- the search told what may be answered within the budget, and the visits that it made
pub record IsEnd (q : Question) (start : List (Option ℕ)) (budget visits : ℕ) (searched : Searched) : Type 0 where
  pub outcome : OutcomeOf q start budget (outcome_of searched)
  pub counted : visits_made (visits_of searched) ≡ visits
  pub spent : IsSpent budget searched
  pub took : fewest_visits (outcome_of searched) ≤ visits

-- the search is the old one, and under way after more visits
pub record IsPause (q : Question) (old : Search) (until visits : ℕ) (new : Search) : Type 0 where
  pub start : started_at new ≡ started_at old
  pub budget : budget_of new ≡ budget_of old
  pub under_way : IsSearchAt q visits new
  pub reached : visits ≡ until
  pub short : visits < budget_of old

-- the search went on to its end, or until so many visits were made
abbrev pub HasGoneOn : Question → Question → Search → ℕ → ℕ → Searching → Type 0
HasGoneOn q r old until visits (Ended searched) = IsEnd q (started_at old) (budget_of old) visits searched
HasGoneOn q r old until visits (Paused new) = IsPause r old until visits new
