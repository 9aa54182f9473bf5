use Rattle.hall_sql.proofs.UnreadLemmas.{unread_points}
use Rattle.hall_sql.proofs.record.points_at.Goals as goal

pub returns-in-Err-clause-unread : goal.returns-in-Err-clause-unread
returns-in-Err-clause-unread c = λ failed points is.
    unread_points c.args.row.now c.args.at points (c.in-Err.ensures.kind (c.fault_of.ensures failed)) is
