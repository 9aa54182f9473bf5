use Rattle.std.proofs.lemmas.Result.{on_ok_weaker}
use Rattle.hall_desk.proofs.JsonTold.{after}
use Rattle.hall_http.proofs.reply.tell_submit.Goals as goal

pub returns : goal.returns
returns c =
    on_ok_weaker c.end_with_verdict.result (λ last.
    after (after c.in_ok-open.ensures c.in_ok-within_at.ensures) last)
    c.end_with_verdict.ensures
