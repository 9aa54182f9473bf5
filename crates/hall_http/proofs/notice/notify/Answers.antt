use Rattle.std.proofs.Common.{◌∙◌}
use Rattle.hall_http.proofs.Notices.{told_or_part}
use Rattle.hall_http.proofs.notice.notify.Goals as goal

pub returns-in-Ok : goal.returns-in-Ok
returns-in-Ok g c =
    let line = c.as_bytes.ensures.value ∙ c.as_str.ensures.value ∙ c.in-Ok.ensures in
    told_or_part c.write_all-written.result _ _ _ (rw line at c.write_all-written.ensures.written)
    (rw line at c.write_all-written.ensures.part)
