-- What a turn does with the search that is wanted.
use Rattle.std.proofs.Common.{◌≡◌, ◌∙◌, ◌<◌, ◌≤◌, ◌+◌, sym, ap, subst, ℕ, inl, inr, List, length}
use Rattle.std.proofs.Common.{Option, Some, None}
use Rattle.std.specs.Prelude.{slice_set, Err, IfErr, IfNone, IfOk, MatchOption, Ok, Result}
use Rattle.std.proofs.lemmas.Bool.{cases_lt}
use Rattle.std.proofs.lemmas.List.{get_or_past, set-set}
use Rattle.hall_solve.specs.Searched.{visits_made, visits_of}
use Rattle.hall_desk.specs.Finding.{FindingView}
use Rattle.hall_desk.specs.Searches.{AreUnderWay, HasWorked, IsAt, IsFreeFor, IsPutAt, IsWanted, IsWorkOfTurn}
use Rattle.hall_desk.specs.Searches.{IsWorked, SearchesView, Works}
use Rattle.hall_desk.specs.declared.under_way.Underway.{Underway}
use Rattle.hall_desk.specs.declared.wanted_search.Wanted.{Wanted}

-- where a search stands is one of the places
pub at_inside : (places : List (Option Underway)) (place : ℕ) (a : Underway) → IsAt places place a
    → place < length places
at_inside places place a at = elim (cases_lt place (length places)) [
  | inl inside ↦ inside
  | inr past ↦ let none : None ≡ Some a = sym (get_or_past places place None past) ∙ at in absurd cc
]

-- one search stands at a place
pub one_at : (places : List (Option Underway)) (place : ℕ) (a b : Underway) → IsAt places place a → IsAt places place b
    → a ≡ b
one_at places place a b here there = let both : Some a ≡ Some b = sym here ∙ there in cc

-- who has a place is the only one for its key
pub free_of : (places : List (Option Underway)) (place : ℕ) (a : Underway) (key : List ℕ) → AreUnderWay places
    → IsAt places place a → a.key ≡ key → IsFreeFor places key place
free_of places place a key were at is other b there same = were.alone other place b a there at (same ∙ sym is)

-- the wanted search was taken off its place, and has the visits of a turn
module _ (old : SearchesView) (wanted : Wanted) (place most : ℕ) (a : Underway) (at : IsAt old.places place a)
    (found : (b : Underway) × IsAt old.places place b × IsWanted wanted b) (some : IsWorkOfTurn wanted.puzzle most)
  where
    abbrev works : Works old wanted
    works = record {
      place = place;
      a = a;
      at = at;
      is = subst (IsWanted wanted) (one_at old.places place found.0 a found.1 at) found.2;
      more = most;
      some = some;
    }

    -- what came of going on with it is what came of the wanted one
    pub worked_by : {E : Type 0} (off new : SearchesView) (result : Result (Option FindingView) E)
        → off ≡ record old { places = slice_set old.places place None } → new.asked ≡ off.asked
        → IfOk result (λ told. MatchOption told (new.ended ≡ off.ended)
        (λ finding. (new.ended ≡ off.asked) × (new.places ≡ off.places) × (finding.puzzle ≡ a.search.puzzle)
        × (finding.budget ≡ a.search.budget) × (visits_made (visits_of finding.searched) ≤ a.search.visits + most)))
        → IfOk result (λ told. IfNone told ((a.search.visits + most < a.search.budget) × (b : Underway)
        × IsWorked off a most b × IsPutAt off.places place b new.places))
        → IfErr result (λ _. new ≡ off) → HasWorked old wanted result new
    worked_by off new (Ok (Some finding)) left asked (ended, places, puzzle, budget, few) paused refused = (
      (works, places ∙ ap (λ (v : SearchesView). v.places) left, puzzle ∙ works.is.puzzle, budget ∙ works.is.within, few),
      asked ∙ ap (λ (v : SearchesView). v.asked) left,
      ended ∙ ap (λ (v : SearchesView). v.asked) left,
    )
    worked_by off new (Ok None) left asked ended (few, b, worked, put) refused = (
      inl (
        works,
        subst (λ (n : ℕ). a.search.visits + most < n) works.is.within few,
        b,
        subst (λ (v : SearchesView). IsWorked v a most b) left worked,
        put ∙ ap (λ (v : SearchesView). slice_set v.places place (Some b)) left ∙ set-set old.places place None (Some b),
      ),
      asked ∙ ap (λ (v : SearchesView). v.asked) left,
      ended ∙ ap (λ (v : SearchesView). v.ended) left,
    )
    worked_by off new (Err fault) left asked ended paused same = (
      inr (works, ap (λ (v : SearchesView). v.places) (same ∙ left)),
      asked ∙ ap (λ (v : SearchesView). v.asked) left,
      ap (λ (v : SearchesView). v.ended) (same ∙ left),
    )
