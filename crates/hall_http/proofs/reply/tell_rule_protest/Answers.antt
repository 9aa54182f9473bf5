use Rattle.std.proofs.lemmas.Result.{on_ok_weaker}
use Rattle.hall_desk.proofs.JsonTold.{after}
use Rattle.hall_http.proofs.reply.tell_rule_protest.Goals as goal

pub returns : goal.returns
returns c =
    on_ok_weaker c.close.result (λ last.
    after (after (after c.in_ok-open.ensures c.in_ok-points_at.ensures) c.in_ok-ruling_at.ensures) last)
    c.close.ensures
