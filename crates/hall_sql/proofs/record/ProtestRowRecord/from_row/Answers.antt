use Rattle.std.proofs.Common.{arith}
use Rattle.hall_sql.specs.Rows.{protest_in}
use Rattle.hall_store.proofs.Knowing.{fails_as}
use Rattle.hall_sql.proofs.CauseLemmas.{none_of, none_is}
use Rattle.hall_sql.proofs.UnreadLemmas.{printable_ascii, word_ascii}
use Rattle.hall_sql.proofs.RecordParts.{protest_parts}
use Rattle.hall_sql.proofs.record.ProtestRowRecord.from_row.Goals as goal

pub returns-in_err-number-clause-unread : goal.returns-in_err-number-clause-unread
returns-in_err-number-clause-unread c =
    fails_as c.from_residual.result _ _ c.from_residual.ensures.1
    (λ failed. none_of (protest_in c.args.row.now) (λ it reads.
    none_is _ _ (c.in_err-number.ensures.unread failed (omega arith)) (protest_parts c.args.row.now it reads).number))

pub returns-in_err-ruling-clause-unread : goal.returns-in_err-ruling-clause-unread
returns-in_err-ruling-clause-unread c =
    fails_as c.from_residual-in_err-ruling.result _ _ c.from_residual-in_err-ruling.ensures.1
    (λ failed. none_of (protest_in c.args.row.now) (λ it reads.
    none_is _ _ (c.in_err-ruling.ensures.unread failed) (protest_parts c.args.row.now it reads).ruling))

pub returns-in_err-entrant-clause-unread : goal.returns-in_err-entrant-clause-unread
returns-in_err-entrant-clause-unread c =
    fails_as c.from_residual-in_err-entrant.result _ _ c.from_residual-in_err-entrant.ensures.1
    (λ failed. none_of (protest_in c.args.row.now) (λ it reads.
    none_is _ _ (c.in_err-entrant.ensures.unread failed word_ascii) (protest_parts c.args.row.now it reads).entrant))

pub returns-in_err-round-clause-unread : goal.returns-in_err-round-clause-unread
returns-in_err-round-clause-unread c =
    fails_as c.from_residual-in_err-round.result _ _ c.from_residual-in_err-round.ensures.1
    (λ failed. none_of (protest_in c.args.row.now) (λ it reads.
    none_is _ _ (c.in_err-round.ensures.unread failed word_ascii) (protest_parts c.args.row.now it reads).round))

pub returns-in_err-token-clause-unread : goal.returns-in_err-token-clause-unread
returns-in_err-token-clause-unread c =
    fails_as c.from_residual-in_err-token.result _ _ c.from_residual-in_err-token.ensures.1
    (λ failed. none_of (protest_in c.args.row.now) (λ it reads.
    none_is _ _ (c.in_err-token.ensures.unread failed word_ascii) (protest_parts c.args.row.now it reads).token))

pub returns-in_err-text-clause-unread : goal.returns-in_err-text-clause-unread
returns-in_err-text-clause-unread c =
    fails_as c.from_residual-in_err-text.result _ _ c.from_residual-in_err-text.ensures.1
    (λ failed. none_of (protest_in c.args.row.now) (λ it reads.
    none_is _ _ (c.in_err-text.ensures.unread failed printable_ascii) (protest_parts c.args.row.now it reads).text))
