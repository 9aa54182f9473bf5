use Rattle.hall_sql.specs.Rows.{tester_in}
use Rattle.hall_store.proofs.Knowing.{fails_as}
use Rattle.hall_sql.proofs.CauseLemmas.{none_of, none_is}
use Rattle.hall_sql.proofs.UnreadLemmas.{word_ascii}
use Rattle.hall_sql.proofs.RecordParts.{tester_parts}
use Rattle.hall_sql.proofs.record.TesterRecord.from_row.Goals as goal

pub returns-in_err-round-clause-unread : goal.returns-in_err-round-clause-unread
returns-in_err-round-clause-unread c =
    fails_as c.from_residual.result _ _ c.from_residual.ensures.1
    (λ failed. none_of (tester_in c.args.row.now) (λ it reads.
    none_is _ _ (c.in_err-round.ensures.unread failed word_ascii) (tester_parts c.args.row.now it reads).round))

pub returns-in_err-name-clause-unread : goal.returns-in_err-name-clause-unread
returns-in_err-name-clause-unread c =
    fails_as c.from_residual-in_err-name.result _ _ c.from_residual-in_err-name.ensures.1
    (λ failed. none_of (tester_in c.args.row.now) (λ it reads.
    none_is _ _ (c.in_err-name.ensures.unread failed word_ascii) (tester_parts c.args.row.now it reads).name))
