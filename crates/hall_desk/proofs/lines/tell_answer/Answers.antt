use Rattle.std.proofs.Common.{Option, ℕ, subst}
use Rattle.std.proofs.lemmas.Result.{on_ok_weaker}
use Rattle.json.specs.Tree.{members_tokens}
use Rattle.serde_json.specs.Written.{members_outline}
use Rattle.hall_desk.specs.ListedAnswers.{verdict_member}
use Rattle.hall_desk.specs.Telling.{AddsTokens}
use Rattle.hall_desk.proofs.JsonTold.{after}
use Rattle.hall_desk.proofs.lines.tell_answer.Goals as goal

pub returns : goal.returns
returns c =
    on_ok_weaker c.end_with_verdict.result (λ last.
    after (after (after (after (after (after (after c.in_ok-open.ensures c.in_ok-checked_at.ensures)
    c.in_ok-checked_at-2.ensures) c.in_ok-within_at.ensures) c.in_ok-within_at-2.ensures)
    c.in_ok-within_at-3.ensures) c.in_ok-checked_at-3.ensures)
    (subst (λ (v : Option ℕ). AddsTokens c.checked_at-3.new.self c.end_with_verdict.new.self (members_tokens (members_outline
    (verdict_member v)))) c.shown_verdict.ensures last))
    c.end_with_verdict.ensures
