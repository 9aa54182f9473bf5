-- What a check of a world says.
use Rattle.std.specs.Prelude.{◌≡◌, ℕ, List, [], ◌∷◌, Option, Some, None, length}
use Rattle.std.specs.FinMap.{values}
use Rattle.hall_policy.specs.World.{World}
use Rattle.hall_policy.specs.declared.record.PuzzleRow.{PuzzleRow}
use Rattle.hall_check.specs.Checks.{AreTold}
use Rattle.hall_check.specs.Finds.{EveryRow}
use Rattle.hall_desk.specs.Sane.{Sane, IsTrueState}
use Rattle.hall_check.specs.States.{AreStatesTold}
use Rattle.hall_check.specs.declared.sanity.Checked.{Checked}
use Rattle.hall_check.specs.declared.sentence.Breaches.{Breaches}
use Rattle.hall_check.specs.declared.sentence.Sentence.{Sentence}
use Rattle.hall_check.specs.declared.sentence.Sentence.TheVariants as sentence
use Rattle.hall_check.specs.declared.puzzle_states.States.{States}

-- all sentences but that of puzzles' states, in the order in which they are told
abbrev pub all_sentences : List Sentence
all_sentences =
    sentence.OwnKey ∷ sentence.RolesApart ∷ sentence.AuthorThere ∷ sentence.FewPuzzles ∷ sentence.SolutionRight
    ∷ sentence.ListWhole ∷ sentence.FewTesters ∷ sentence.ReleasedFirst ∷ sentence.EntryHome ∷ sentence.PuzzleThere
    ∷ sentence.CertifiedFirst ∷ sentence.InNoOther ∷ sentence.TesterHome ∷ sentence.TesterThere
    ∷ sentence.AnswererThere ∷ sentence.AnsweredThere ∷ sentence.AnswerReleased ∷ sentence.MayAnswer
    ∷ sentence.VerdictTrue ∷ sentence.Numbered ∷ sentence.NumberedOnce ∷ sentence.FewAnswers
    ∷ sentence.ProtesterThere ∷ sentence.ProtestedThere ∷ sentence.ProtestReleased ∷ sentence.MayProtest
    ∷ sentence.RuledFirst ∷ sentence.FewProtests ∷ []

-- what is found of each of them
abbrev pub AreAllTold : World → List Breaches → Type 0
AreAllTold world told = AreTold world all_sentences told

-- where there is a budget, each puzzle was searched
abbrev pub AreStatesAsked : Option ℕ → List PuzzleRow → Option States → Type 0
AreStatesAsked None rows None = Unit {0}
AreStatesAsked None rows (Some states) = ⊥
AreStatesAsked (Some budget) rows None = ⊥
AreStatesAsked (Some budget) rows (Some states) = AreStatesTold budget rows states

-- each puzzle was searched to an end, and no state was found false
abbrev pub AreStatesTrue : Option States → Type 0
AreStatesTrue None = ⊥
AreStatesTrue (Some states) = (states.found.first.items ≡ []) × (states.undecided.items ≡ [])

-- no sentence was found false
abbrev pub IsNothingFound : Checked → Type 0
IsNothingFound checked =
    EveryRow (λ found. found.first.items ≡ []) checked.told.items × AreStatesTrue checked.states

-- What a check says of a world: how much there is of it; of each sentence, of how many rows it is false, and which are
-- the first of them; so of puzzles' states, where they were searched. Where none of the sentences was found false, the
-- world is sane if each puzzle's state is true of it; and where nothing was found, it is.
pub record IsChecked (world : World) (budget : Option ℕ) (checked : Checked) : Type 0 where
  pub people : checked.people ≡ length (values world.people)
  pub puzzles : checked.puzzles ≡ length (values world.puzzles)
  pub rounds : checked.rounds ≡ length (values world.rounds)
  pub answers : checked.answers ≡ length (values world.answers)
  pub protests : checked.protests ≡ length (values world.protests)
  pub told : AreAllTold world checked.told.items
  pub states : AreStatesAsked budget (values world.puzzles) checked.states
  pub but_states : EveryRow (λ found. found.first.items ≡ []) checked.told.items →
      EveryRow (λ row. IsTrueState row.puzzle row.state) (values world.puzzles) → Sane world
  pub sane : IsNothingFound checked → Sane world
