-- A search of a puzzle that is under way.
use Rattle.std.specs.Prelude.{◌≡◌, ◌≤◌, ℕ, List, Option}
use Rattle.hall_grid.specs.Board.{Board}
use Rattle.hall_grid.specs.declared.board.Kind.{Kind}
use Rattle.hall_grid.specs.declared.board.Kind.TheVariants as kind
use Rattle.hall_solve.specs.declared.paused.Search.{Search}
use Rattle.hall_solve.specs.Question.{Question, IsSameQuestion}
use Rattle.hall_solve.specs.Puzzle.{SearchView, question_of, start_of}
use Rattle.hall_solve.specs.Paused.{started_at, budget_of, IsSearchAt}
use Rattle.hall_desk.specs.declared.puzzle_search.ByKind.{ByKind}
use Rattle.hall_desk.specs.declared.puzzle_search.ByKind.TheVariants.{Sudoku, Slither, Nurikabe}

-- a puzzle, the budget of its search, and the visits that it made so far
pub record SearchOf : Type 0 where
  pub puzzle : Board
  pub budget : ℕ
  pub visits : ℕ

-- the search from the start, within the budget, by rules that ask the same
pub record Searches (q r : Question) (start : List (Option ℕ)) (budget visits asked : ℕ) (search : Search)
    : Type 0 where
  pub same : IsSameQuestion q r
  pub begun : started_at search ≡ start
  pub limit : budget_of search ≡ budget
  pub under_way : IsSearchAt r visits search
  pub at_visits : asked ≤ visits

-- how many visits it made
abbrev pub visits_of_kind : ByKind → ℕ
visits_of_kind (Sudoku rules search) = rules.visits
visits_of_kind (Slither rules search) = rules.visits
visits_of_kind (Nurikabe rules search) = rules.visits

-- the puzzle is of the kind, and its search by the kind's rules is under way
abbrev pub IsUnderWayBy : Kind → Board → ℕ → SearchView → Search → Type 0
IsUnderWayBy k puzzle budget rules search =
    (puzzle.kind ≡ k) × Searches (question_of k puzzle) (question_of k rules.board) (start_of k puzzle) budget
    rules.visits rules.asked search

-- its search is under way by the rules of one kind
abbrev pub IsUnderWayOf : Board → ℕ → ByKind → Type 0
IsUnderWayOf puzzle budget (Sudoku rules search) = IsUnderWayBy kind.Sudoku puzzle budget rules search
IsUnderWayOf puzzle budget (Slither rules search) = IsUnderWayBy kind.Slither puzzle budget rules search
IsUnderWayOf puzzle budget (Nurikabe rules search) = IsUnderWayBy kind.Nurikabe puzzle budget rules search
