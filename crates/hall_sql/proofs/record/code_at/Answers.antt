use Rattle.hall_sql.proofs.UnreadLemmas.{unread_code}
use Rattle.hall_sql.proofs.record.code_at.Goals as goal

pub returns-in-Err-clause-unread : goal.returns-in-Err-clause-unread
returns-in-Err-clause-unread c = λ failed code is.
    unread_code c.args.row.now c.args.at code (c.in-Err.ensures.kind (c.fault_of.ensures failed)) is
