-- What came of going on with the search of a puzzle.
use Rattle.std.specs.Prelude.{◌≡◌, ◌+◌, ◌<◌, ◌≤◌, ℕ}
use Rattle.hall_solve.specs.Searched.{visits_made, visits_of}
use Rattle.hall_desk.specs.Underway.{SearchOf}
use Rattle.hall_desk.specs.declared.puzzle_search.Certifying.{Certifying}
use Rattle.hall_desk.specs.declared.puzzle_search.Certifying.TheVariants.{Found, Paused}

-- it told what was found of the puzzle, within the budget, by so many more visits at most; or it paused, after so many
abbrev pub IsGoneOn : SearchOf → ℕ → Certifying → Type 0
IsGoneOn old most (Found finding) =
    (finding.puzzle ≡ old.puzzle) × (finding.budget ≡ old.budget)
    × (visits_made (visits_of finding.searched) ≤ old.visits + most)
IsGoneOn old most (Paused new) =
    (new.puzzle ≡ old.puzzle) × (new.budget ≡ old.budget) × (new.visits ≡ old.visits + most)
    × (new.visits < old.budget)
