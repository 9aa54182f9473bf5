use Rattle.std.proofs.lemmas.Result.{on_ok_weaker}
use Rattle.hall_desk.proofs.JsonTold.{after}
use Rattle.hall_http.proofs.row.ProtestLineRow.tell.Goals as goal

pub returns : goal.returns
returns c =
    on_ok_weaker c.close.result (λ last.
    after (after (after (after (after (after (after c.in_ok-open.ensures c.in_ok-checked_at.ensures)
    c.in_ok-within_at.ensures) c.in_ok-points_at.ensures) c.in_ok-ruling_at.ensures)
    c.in_ok-checked_at-2.ensures) c.in_ok-checked_at-3.ensures) last)
    c.close.ensures
