use Rattle.std.proofs.Common.{◌↔◌, ◌∙◌, IsTrue, sym, subst}
use Rattle.hall_grid.specs.Answer.{Verdict}
use Rattle.hall_policy.specs.declared.record.PuzzleState.{PuzzleState}
use Rattle.hall_check.specs.Sentences.{HasSolution}
use Rattle.hall_check.proofs.Judging.{solution_told}
use Rattle.hall_check.proofs.ask_puzzles.has_solution.Goals as goal

pub returns-in_ok-broken-in-One : goal.returns-in_ok-broken-in-One
returns-in_ok-broken-in-One c =
    let puzzle = c.args.puzzle.now in
    let broken = c.in_ok-broken-in-One.broken in
    let judged : Verdict puzzle c.in-One.text broken = subst (λ text. Verdict puzzle text broken)
    (c.as_bytes.ensures.value ∙ c.as_str.ensures.text) c.in_ok-broken-in-One.ensures in
    subst (λ (state : PuzzleState). IsTrue c.is_empty.result ↔ HasSolution puzzle state) (sym c.in-One.is)
    (solution_told puzzle c.in-One.text broken c.is_empty.result judged c.is_empty.ensures)
