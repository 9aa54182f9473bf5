use Rattle.hall_sql.proofs.UnreadLemmas.{unread_int}
use Rattle.hall_sql.proofs.bad_rows.rowid_at.Goals as goal

pub returns-in-Err-clause-unread : goal.returns-in-Err-clause-unread
returns-in-Err-clause-unread c failed =
    unread_int c.args.row.now c.args.at (c.in-Err.ensures.kind (c.fault_of.ensures failed))
