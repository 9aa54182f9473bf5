-- What new searches tell of puzzles' states.
use Rattle.std.proofs.Common.{◌≡◌, ◌++◌, ◌∷◌, [], ℕ, List, true, false, inl, inr, refl, sym, ap, ◌∙◌, subst}
use Rattle.std.proofs.lemmas.List.{map-append}
use Rattle.hall_grid.specs.Board.{Board}
use Rattle.hall_grid.specs.Answer.{text_of}
use Rattle.hall_policy.specs.declared.record.PuzzleRow.{PuzzleRow}
use Rattle.hall_policy.specs.declared.record.PuzzleState.{PuzzleState}
use Rattle.hall_policy.specs.declared.record.PuzzleState.TheVariants as state
use Rattle.hall_check.specs.Finds.{EveryRow, Finds}
use Rattle.hall_desk.specs.Sane.{IsTrueState}
use Rattle.hall_check.specs.Spots.{puzzle_spot}
use Rattle.hall_check.specs.States.{AreStatesTold, IsStateTold, IsUndecided}
use Rattle.hall_desk.specs.Step.{is_open}
use Rattle.hall_check.specs.declared.sentence.Breaches.{Breaches}
use Rattle.hall_check.specs.declared.sentence.Sentence.TheVariants.{StateTrue}
use Rattle.hall_check.specs.declared.puzzle_states.States.{States}
use Rattle.hall_check.proofs.Asking.{all_first, all_true, every_more, every_none, finds_more, finds_none, first_more}
use Rattle.hall_check.proofs.Asking.{none_mapped, second_more}

-- two states that say something and are true of one puzzle are one
pub one_state : (puzzle : Board) (a b : PuzzleState) → is_open a ≡ false → is_open b ≡ false → IsTrueState puzzle a
    → IsTrueState puzzle b → a ≡ b
one_state puzzle state.New b says _ _ _ = absurd (let no : true ≡ false = says in cc)
one_state puzzle state.GaveUp b says _ _ _ = absurd (let no : true ≡ false = says in cc)
one_state puzzle (state.One s) state.New _ says _ _ = absurd (let no : true ≡ false = says in cc)
one_state puzzle (state.One s) state.GaveUp _ says _ _ = absurd (let no : true ≡ false = says in cc)
one_state puzzle (state.One s) (state.One t) _ _ (f, says, solves, only) (g, also, solved, lone) =
    let same : g ≡ f = only g solved in
    let texts : s ≡ t = says.written ∙ ap (text_of puzzle.kind puzzle.size) (sym same) ∙ sym also.written in
    ap state.One texts
one_state puzzle (state.One s) state.NoSolution _ _ (f, says, solves, only) none = absurd (none f solves)
one_state puzzle (state.One s) state.More _ _ (f, says, solves, only) (a, b, first, second, differ) = absurd
    (differ (only a first ∙ sym (only b second)))
one_state puzzle state.NoSolution state.New _ says _ _ = absurd (let no : true ≡ false = says in cc)
one_state puzzle state.NoSolution state.GaveUp _ says _ _ = absurd (let no : true ≡ false = says in cc)
one_state puzzle state.NoSolution (state.One t) _ _ none (g, also, solved, lone) = absurd (none g solved)
one_state puzzle state.NoSolution state.NoSolution _ _ _ _ = refl
one_state puzzle state.NoSolution state.More _ _ none (a, b, first, second, differ) = absurd (none a first)
one_state puzzle state.More state.New _ says _ _ = absurd (let no : true ≡ false = says in cc)
one_state puzzle state.More state.GaveUp _ says _ _ = absurd (let no : true ≡ false = says in cc)
one_state puzzle state.More (state.One t) _ _ (a, b, first, second, differ) (g, also, solved, lone) = absurd
    (differ (lone a first ∙ sym (lone b second)))
one_state puzzle state.More state.NoSolution _ _ (a, b, first, second, differ) none = absurd (none a first)
one_state puzzle state.More state.More _ _ _ _ = refl

-- nothing is told of no puzzles
pub told_none : (budget : ℕ) (states : States) → states.found.sentence ≡ StateTrue → states.found.first.items ≡ []
    → states.found.count ≡ 0 → states.undecided.items ≡ [] → AreStatesTold budget [] states
told_none budget states kind none zero_count decided = record {
  decided = [];
  undecided = [];
  parted = (refl, refl);
  sentence = kind;
  finds = finds_none (λ (row : PuzzleRow). IsTrueState row.puzzle row.state) puzzle_spot states.found none zero_count;
  gave_up = every_none (λ (row : PuzzleRow). IsUndecided budget row.puzzle row.state);
  listed = decided;
}

-- what is told with one puzzle more
pub told_one : (budget : ℕ) (rows : List PuzzleRow) (row : PuzzleRow) (old new : States)
    → new.found.sentence ≡ old.found.sentence → IsStateTold budget row old new → AreStatesTold budget rows old
    → AreStatesTold budget (rows ++ row ∷ []) new
told_one budget rows row old new same (inl (breach, kept)) told = record {
  decided = told.decided ++ row ∷ [];
  undecided = told.undecided;
  parted = first_more rows told.decided told.undecided row told.parted;
  sentence = same ∙ told.sentence;
  finds = finds_more (λ (r : PuzzleRow). IsTrueState r.puzzle r.state) puzzle_spot told.decided row old.found new.found
      breach told.finds;
  gave_up = told.gave_up;
  listed = ap (λ keys. keys.items) kept ∙ told.listed;
}
told_one budget rows row old new same (inr (gave_up, kept, put)) told = record {
  decided = told.decided;
  undecided = told.undecided ++ row ∷ [];
  parted = second_more rows told.decided told.undecided row told.parted;
  sentence = same ∙ told.sentence;
  finds = subst
      (λ (found : Breaches). Finds (λ (r : PuzzleRow). IsTrueState r.puzzle r.state) puzzle_spot told.decided found)
      (sym kept) told.finds;
  gave_up = every_more (λ (r : PuzzleRow). IsUndecided budget r.puzzle r.state) told.undecided row told.gave_up gave_up;
  listed = put ∙ ap (λ keys. keys ++ row.key ∷ []) told.listed
      ∙ sym (map-append (λ (r : PuzzleRow). r.key) told.undecided (row ∷ []));
}

-- where no state was found false, and none is undecided, each is true
pub all_states_true : (budget : ℕ) (rows : List PuzzleRow) (states : States) → AreStatesTold budget rows states
    → states.found.first.items ≡ [] → states.undecided.items ≡ []
    → EveryRow (λ row. IsTrueState row.puzzle row.state) rows
all_states_true budget rows states told none decided =
    let lone : told.undecided ≡ [] = none_mapped (λ (r : PuzzleRow). r.key) told.undecided (sym told.listed ∙ decided)
    in
    subst (λ (xs : List PuzzleRow). EveryRow (λ row. IsTrueState row.puzzle row.state) xs)
    (sym (all_first rows told.decided told.undecided told.parted lone)) (all_true told.finds none)
