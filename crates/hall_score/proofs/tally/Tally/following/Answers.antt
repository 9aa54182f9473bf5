use Rattle.std.proofs.Common.{◌∙◌, sym}
use Rattle.hall_score.proofs.TallyLemmas.{turn_next, turn_late, true_not_false}
use Rattle.hall_score.proofs.tally.Tally.following.Goals as goal

pub returns-then-is_before : goal.returns-then-is_before
returns-then-is_before c =
    turn_next c.args.self.now.last c.in-Some.entrant c.args.row.now c.in-Some.is (sym c.cmp.ensures ∙ c.in-Equal.is)
    (c.is_before.ensures.0 c.if-is_before.true)

pub returns-else-is_before : goal.returns-else-is_before
returns-else-is_before c =
    turn_late c.args.self.now.last c.in-Some.entrant c.args.row.now c.in-Some.is (sym c.cmp.ensures ∙ c.in-Equal.is)
    (λ ahead. true_not_false c.is_before.result (c.is_before.ensures.1 ahead) c.if-is_before.false)
