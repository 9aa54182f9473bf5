-- A search of a puzzle that goes on, whatever its kind.
use Rattle.std.proofs.Common.{◌≡◌, ◌+◌, ℕ, ◌≤◌, List, Option, sym, ◌∙◌, subst}
use Rattle.hall_grid.specs.Board.{Board}
use Rattle.hall_grid.specs.declared.board.Kind.{Kind}
use Rattle.hall_solve.specs.declared.paused.Search.{Search}
use Rattle.hall_solve.specs.declared.paused.Searching.{Searching}
use Rattle.hall_solve.specs.declared.paused.Searching.TheVariants.{Ended, Paused}
use Rattle.hall_solve.specs.declared.searched.Searched.{Searched}
use Rattle.hall_solve.specs.Question.{IsSameQuestion, plain_tree, open_places}
use Rattle.hall_solve.specs.Answer.{OutcomeOf}
use Rattle.hall_solve.specs.Puzzle.{SearchView, question_of, start_of}
use Rattle.hall_solve.specs.Searched.{visits_made, outcome_of, visits_of, IsSpent}
use Rattle.hall_solve.specs.Paused.{started_at, budget_of, HasGoneOn, IsEnd, IsPause}
use Rattle.hall_solve.proofs.Boards.{same_twice}
use Rattle.hall_solve.proofs.Underway.{OutcomeOf-same}
use Rattle.hall_desk.specs.Finding.{IsFoundBy}
use Rattle.hall_desk.specs.Underway.{IsUnderWayBy}

module _ (k : Kind) (puzzle : Board) (budget most : ℕ) (rules after : SearchView) (search : Search)
    (before : IsUnderWayBy k puzzle budget rules search) (result : Searching)
    (gone : HasGoneOn (question_of k rules.board) (question_of k after.board) search (rules.visits + most) after.visits
    result) where
  -- so it went on
  abbrev GoneOn : Searching → Type 0
  GoneOn = HasGoneOn (question_of k rules.board) (question_of k after.board) search (rules.visits + most) after.visits

  -- the end of the search is what was found of the puzzle
  pub found_of : (searched : Searched) → result ≡ Ended searched →
      after.visits ≤ plain_tree (question_of k rules.board).values (open_places (started_at search)) →
      IsFoundBy puzzle budget searched
  found_of searched ended frugal = record {
    outcome =
        subst (λ (x : Kind). OutcomeOf (question_of x puzzle) (start_of x puzzle) budget (outcome_of searched))
        (sym before.0) told;
    spent = subst (λ (n : ℕ). IsSpent n searched) before.1.limit end.spent;
    took = rw end.counted end.took;
    frugal =
        subst
        (λ (x : Kind). visits_made (visits_of searched)
        ≤ plain_tree (question_of x puzzle).values (open_places (start_of x puzzle)))
        (sym before.0) few;
  }
    where
      end : IsEnd (question_of k rules.board) (started_at search) (budget_of search) after.visits searched
      end = subst GoneOn ended gone

      begun : OutcomeOf (question_of k rules.board) (start_of k puzzle) (budget_of search) (outcome_of searched)
      begun =
          subst (λ (p : List (Option ℕ)). OutcomeOf (question_of k rules.board) p (budget_of search)
          (outcome_of searched))
          before.1.begun end.outcome

      told : OutcomeOf (question_of k puzzle) (start_of k puzzle) budget (outcome_of searched)
      told =
          OutcomeOf-same (question_of k puzzle) (question_of k rules.board) (start_of k puzzle) budget
          (outcome_of searched) before.1.same
          (subst (λ (n : ℕ). OutcomeOf (question_of k rules.board) (start_of k puzzle) n (outcome_of searched))
          before.1.limit begun)

      open_there : after.visits ≤ plain_tree (question_of k rules.board).values (open_places (start_of k puzzle))
      open_there =
          subst (λ (p : List (Option ℕ)). after.visits ≤ plain_tree (question_of k rules.board).values (open_places p))
          before.1.begun frugal

      few : visits_made (visits_of searched) ≤ plain_tree (question_of k puzzle).values
          (open_places (start_of k puzzle))
      few =
          rw end.counted
          (subst (λ (v : ℕ). after.visits ≤ plain_tree v (open_places (start_of k puzzle))) before.1.same.values
          open_there)

  -- after a pause the search is under way
  pub paused_of : (new : Search) → result ≡ Paused new →
      IsSameQuestion (question_of k rules.board) (question_of k after.board) → after.asked ≤ after.visits →
      IsUnderWayBy k puzzle budget after new
  paused_of new is same le = (
    before.0,
    record {
      same =
          same_twice (question_of k puzzle) (question_of k rules.board) (question_of k after.board) before.1.same same;
      begun = pause.start ∙ before.1.begun;
      limit = pause.budget ∙ before.1.limit;
      under_way = pause.under_way;
      at_visits = le;
    },
  )
    where
      pause : IsPause (question_of k after.board) search (rules.visits + most) after.visits new
      pause = subst GoneOn is gone
