use Rattle.hall_sql.proofs.ColumnLemmas.{spelled}
use Rattle.hall_sql.proofs.UnreadLemmas.{unspelled}
use Rattle.hall_sql.proofs.record.spelled.Goals as goal

pub returns-in-Ok-clause-puzzle : goal.returns-in-Ok-clause-puzzle
returns-in-Ok-clause-puzzle c = spelled c.args.text.now _ c.in-Ok.ensures.ok

pub returns-in-Err-clause-unread : goal.returns-in-Err-clause-unread
returns-in-Err-clause-unread c = λ failed. unspelled c.args.text.now
    (λ board spells. c.text_fault.ensures failed (c.in-Err.ensures.only board spells))
