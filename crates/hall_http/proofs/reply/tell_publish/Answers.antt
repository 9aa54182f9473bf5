use Rattle.std.proofs.lemmas.Result.{on_ok_weaker}
use Rattle.hall_desk.proofs.JsonTold.{after}
use Rattle.hall_http.proofs.reply.tell_publish.Goals as goal

pub returns : goal.returns
returns c =
    on_ok_weaker c.close.result (λ last.
    after (after c.in_ok-open.ensures c.in_ok-checked_at.ensures) last)
    c.close.ensures
