use Rattle.std.proofs.Common.{refl}
use Rattle.hall_sql.proofs.bad_rows.bad_in.Goals as goal

pub returns-clause-bad : goal.returns-clause-bad
returns-clause-bad g c clean =
    let it = c.in_ok-told.ensures.told clean in
    record { serves = it.serves; which = refl; rows = it.rows; shown = it.shown; among = it.tells }
