use Rattle.std.proofs.Common.{◌≡◌, ◌∙◌, Decides, sym, subst}
use Rattle.hall_grid.specs.Answer.{Verdict}
use Rattle.std.specs.Cmp.{unsigned_Decides}
use Rattle.hall_check.specs.Whole.{world_of_whole}
use Rattle.hall_check.proofs.Judging.{verdict_told}
use Rattle.hall_check.proofs.ask_answers.is_verdict.Goals as goal

pub returns : goal.returns
returns c =
    let row = c.args.row.now in
    let puzzle = c.in-Some-puzzle.puzzle.now in
    let names = c.in_ok-verdict.verdict in
    let judged : Verdict puzzle.puzzle row.answer names = subst (λ text. Verdict puzzle.puzzle text names)
    (c.as_bytes.ensures.value ∙ c.as_str.ensures.text) c.in_ok-verdict.ensures in
    verdict_told (world_of_whole c.args.whole.now) (record { round = row.key.round; number = row.key.number }) row
    c.in-Some.entry.now puzzle names c.eq.result
    (sym c.in-Some.ensures) (sym c.in-Some-puzzle.ensures) judged
    (subst (λ b. Decides b (names ≡ row.verdict)) (sym c.eq.ensures) (unsigned_Decides names row.verdict))
