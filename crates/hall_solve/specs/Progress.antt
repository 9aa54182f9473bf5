-- How far a search came.
use Rattle.std.specs.Prelude.{◌≡◌, ℕ, List, [], Option, None}
use Rattle.hall_solve.specs.declared.explore.Walk.{Walk}
use Rattle.hall_solve.specs.declared.explore.Progress.{Progress}
use Rattle.hall_solve.specs.declared.explore.Progress.TheVariants.{Told, Paused}
use Rattle.hall_solve.specs.Question.{Question}
use Rattle.hall_solve.specs.Trail.{IsTrailed}
use Rattle.hall_solve.specs.Underway.{IsUnderWay, IsOutcomeTold}

-- the walk has what the start has, and made no choice and found nothing
pub record IsBegun (start : List (Option ℕ)) (walk : Walk) : Type 0 where
  pub places : walk.board.places ≡ start
  pub trailed : IsTrailed walk.board
  pub unmade : walk.stack.items ≡ []
  pub unfound : walk.found ≡ None

-- the walk is a search from the start that is under way, after so many visits
abbrev pub IsWalkAt : Question → List (Option ℕ) → ℕ → Walk → Type 0
IsWalkAt q start visits walk = IsUnderWay q start walk.board walk.stack.items walk.found visits

-- the search came to its end, or paused after so many visits
abbrev pub IsProgress : Question → List (Option ℕ) → ℕ → ℕ → Progress → Type 0
IsProgress q start until visits (Told o) = IsOutcomeTold q start visits o
IsProgress q start until visits (Paused walk) = (visits ≡ until) × IsWalkAt q start visits walk
