-- What the judge's verdict says of a stored solution, and of a stored verdict.
use Rattle.std.proofs.Common.{◌≡◌, ◌↔◌, ℕ, Bool, List, IsTrue, Some, Decides, inl, inr, refl, sym, ap, ◌∙◌}
use Rattle.std.proofs.Common.{subst}
use Rattle.std.specs.FinMap.{get}
use Rattle.hall_grid.specs.declared.rule.Rule.{Rule}
use Rattle.hall_grid.specs.declared.rule.Rule.TheVariants.{A0}
use Rattle.hall_grid.specs.Board.{Board}
use Rattle.hall_grid.specs.Rule.{Names}
use Rattle.hall_grid.specs.Answer.{Verdict, IsBroken}
use Rattle.hall_policy.specs.World.{World}
use Rattle.hall_policy.specs.declared.record.AnswerRow.{AnswerRow}
use Rattle.hall_policy.specs.declared.record.Entry.{Entry}
use Rattle.hall_policy.specs.declared.record.PlaceKey.{PlaceKey}
use Rattle.hall_policy.specs.declared.record.PuzzleRow.{PuzzleRow}
use Rattle.hall_policy.specs.declared.record.PuzzleState.TheVariants as state
use Rattle.hall_desk.specs.Sane.{IsVerdictAt}
use Rattle.hall_check.specs.Sentences.{HasSolution}
use Rattle.hall_desk.proofs.Promises.{one_filling}
use Rattle.hall_desk.proofs.VerdictOnce.{one_verdict}

-- a verdict without a name is that of a solution
pub solution_told : (puzzle : Board) (text : List ℕ) (names : ℕ) (told : Bool) → Verdict puzzle text names → IsTrue told
    ↔ ((rule : Rule) → Names names rule → ⊥) → IsTrue told ↔ HasSolution puzzle (state.One text)
solution_told puzzle text names told (inl (f, says, broken)) is = (
  (λ t. (f, says, record { filling = says.filling; right = λ rule breaks. is.0 t rule ((broken.each rule).1 breaks) })),
  (λ solution. is.1 (λ rule named.
      let one : f ≡ solution.0 = one_filling puzzle text f solution.0 says solution.1 in
      solution.2.right rule (subst (λ (g : List ℕ). IsBroken puzzle g rule) one ((broken.each rule).0 named)))),
)
solution_told puzzle text names told (inr (none, no_form)) is = (
  (λ t. absurd (is.0 t A0 ((no_form.each A0).1 refl))),
  (λ solution. absurd (none solution.0 solution.1)),
)

-- the judge's verdict is the stored one exactly where the stored one is that of the answer
pub verdict_told : (world : World) (key : PlaceKey) (row : AnswerRow) (entry : Entry) (puzzle : PuzzleRow) (names : ℕ)
    (told : Bool) →
    get world.places key ≡ Some entry → get world.puzzles entry.puzzle ≡ Some puzzle
    → Verdict puzzle.puzzle row.answer names → Decides told (names ≡ row.verdict) → IsTrue told
    ↔ IsVerdictAt world key.round key.number row
verdict_told world key row entry puzzle names told at there judged same = (
  (λ t. (entry, puzzle, at, there, subst (λ (n : ℕ). Verdict puzzle.puzzle row.answer n) (same.0 t) judged)),
  (λ (other, kept, found, stands, verdict).
      let both : Some entry ≡ Some other = sym at ∙ found in
      let one : other ≡ entry = cc in
      let pair : Some kept ≡ Some puzzle = sym stands ∙ ap (λ (e : Entry). get world.puzzles e.puzzle) one ∙ there in
      let row_is : kept ≡ puzzle = cc in
      same.1 (one_verdict puzzle.puzzle row.answer names row.verdict judged
      (subst (λ (p : PuzzleRow). Verdict p.puzzle row.answer row.verdict) row_is verdict))),
)
