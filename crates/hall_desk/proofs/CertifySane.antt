-- A puzzle that is searched, or whose state is told, keeps the world sane.
use Rattle.std.proofs.Common.{◌≡◌, inl, inr, ℕ, true, false, List, Option, Some, None, sym, ap, ◌∙◌, subst}
use Rattle.std.specs.FinMap.{get}
use Rattle.hall_policy.specs.World.{World}
use Rattle.hall_policy.specs.Rules.{StandsReleased}
use Rattle.hall_policy.specs.declared.record.Person.{Person}
use Rattle.hall_policy.specs.declared.record.PuzzleKey.{PuzzleKey}
use Rattle.hall_policy.specs.declared.record.PuzzleRow.{PuzzleRow}
use Rattle.hall_policy.specs.declared.record.PuzzleState.{PuzzleState}
use Rattle.hall_policy.specs.declared.request.Action.TheVariants as action
use Rattle.hall_desk.specs.Step.{Allowed, is_open}
use Rattle.hall_desk.specs.Sane.{Sane}
use Rattle.hall_desk.specs.declared.reply.Reply.{Reply}
use Rattle.hall_desk.proofs.Saneness.{put_sane}
use Rattle.hall_desk.proofs.Truths.{found_true, found_typed}

-- a puzzle that is open to a search stands in no released round, since it would be in state one there
unreleased : (world : World) (key : PuzzleKey) (row : PuzzleRow) → Sane world → get world.puzzles key ≡ Some row
    → is_open row.state ≡ true → (id : List ℕ) → ¬ (StandsReleased world key id)
unreleased world key row sane kept unsettled id stands =
    let c = sane.certified id key stands in
    let at : Some row ≡ Some c.0 = sym kept ∙ c.2 in
    let same : row ≡ c.0 = cc in
    let no : true ≡ false = sym unsettled ∙ ap (λ (r : PuzzleRow). is_open r.state) same ∙ ap is_open c.3 in
    cc

-- a Certify keeps the world sane: what is found is true and of its type, and the key and its author are there already
pub certify_step : (world : World) (caller : Option Person) (key : PuzzleKey) (budget t : ℕ) (found : PuzzleState)
    (given : Reply) (new : World) → Sane world →
    Allowed world caller (action.Certify key budget) t found given new → Sane new
certify_step world caller key budget t found given new sane (row, kept, inl h) =
    subst Sane (sym h.stored)
    (put_sane world key (record row { state = found }) (sane.typed.puzzles key row kept)
    (let is = sane.typed.in_range.puzzles key row kept in record {
      key = is.key;
      puzzle = is.puzzle;
      state = found_typed
          row.puzzle budget found is.puzzle h.is_found;
    })
    (found_true row.puzzle budget found h.is_found) sane
    (sane.refers.authors key row kept)
    (unreleased world key row sane kept h.unsettled)
    (λ none. absurd (let no : Some row ≡ None = sym kept ∙ none in cc)))
certify_step world caller key budget t found given new sane (row, kept, inr h) = subst Sane (sym h.same) sane
