use Rattle.hall_sql.proofs.CauseLemmas.{fails_on}
use Rattle.hall_sql.proofs.UnreadLemmas.{other_kind, unread_text}
use Rattle.hall_sql.proofs.record.text_at.Goals as goal

pub returns-in-Ok-clause-unread : goal.returns-in-Ok-clause-unread
returns-in-Ok-clause-unread g c =
    fails_on c.new.result c.ok_or.result _ _ c.ok_or.ensures.value c.new.ensures.none
    (λ other ascii. other_kind _ _ _ _ _ c.in-Ok.ensures.ok.1 other)

pub returns-in-Err-clause-unread : goal.returns-in-Err-clause-unread
returns-in-Err-clause-unread g c = λ failed ascii.
    unread_text _ _ _ c.args.row.now c.args.at ascii (c.in-Err.ensures.kind (c.fault_of.ensures failed))
