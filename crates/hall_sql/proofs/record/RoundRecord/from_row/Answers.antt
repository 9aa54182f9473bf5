use Rattle.std.proofs.Common.{arith}
use Rattle.hall_sql.specs.Rows.{round_in}
use Rattle.hall_store.proofs.Knowing.{fails_as}
use Rattle.hall_sql.proofs.CauseLemmas.{none_of, none_is}
use Rattle.hall_sql.proofs.UnreadLemmas.{printable_ascii, word_ascii}
use Rattle.hall_sql.proofs.RecordParts.{round_parts}
use Rattle.hall_sql.proofs.record.RoundRecord.from_row.Goals as goal

pub returns-in_err-start-clause-unread : goal.returns-in_err-start-clause-unread
returns-in_err-start-clause-unread c =
    fails_as c.from_residual.result _ _ c.from_residual.ensures.1
    (λ failed. none_of (round_in c.args.row.now) (λ it reads.
    none_is _ _ (c.in_err-start.ensures.unread failed (omega arith)) (round_parts c.args.row.now it reads).start))

pub returns-in_err-minutes-clause-unread : goal.returns-in_err-minutes-clause-unread
returns-in_err-minutes-clause-unread c =
    fails_as c.from_residual-in_err-minutes.result _ _ c.from_residual-in_err-minutes.ensures.1
    (λ failed. none_of (round_in c.args.row.now) (λ it reads.
    none_is _ _ (c.in_err-minutes.ensures.unread failed (omega arith)) (round_parts c.args.row.now it reads).minutes))

pub returns-in_err-protest_minutes-clause-unread : goal.returns-in_err-protest_minutes-clause-unread
returns-in_err-protest_minutes-clause-unread c =
    fails_as c.from_residual-in_err-protest_minutes.result _ _ c.from_residual-in_err-protest_minutes.ensures.1
    (λ failed. none_of (round_in c.args.row.now) (λ it reads.
    none_is _ _ (c.in_err-protest_minutes.ensures.unread failed (omega arith))
    (round_parts c.args.row.now it reads).protest_minutes))

pub returns-in_err-mode-clause-unread : goal.returns-in_err-mode-clause-unread
returns-in_err-mode-clause-unread c =
    fails_as c.from_residual-in_err-mode.result _ _ c.from_residual-in_err-mode.ensures.1
    (λ failed. none_of (round_in c.args.row.now) (λ it reads.
    none_is _ _ (c.in_err-mode.ensures.unread failed) (round_parts c.args.row.now it reads).mode))

pub returns-in_err-penalty-clause-unread : goal.returns-in_err-penalty-clause-unread
returns-in_err-penalty-clause-unread c =
    fails_as c.from_residual-in_err-penalty.result _ _ c.from_residual-in_err-penalty.ensures.1
    (λ failed. none_of (round_in c.args.row.now) (λ it reads.
    none_is _ _ (c.in_err-penalty.ensures.unread failed (omega arith)) (round_parts c.args.row.now it reads).penalty))

pub returns-in_err-bonus-clause-unread : goal.returns-in_err-bonus-clause-unread
returns-in_err-bonus-clause-unread c =
    fails_as c.from_residual-in_err-bonus.result _ _ c.from_residual-in_err-bonus.ensures.1
    (λ failed. none_of (round_in c.args.row.now) (λ it reads.
    none_is _ _ (c.in_err-bonus.ensures.unread failed (omega arith)) (round_parts c.args.row.now it reads).bonus))

pub returns-in_err-released-clause-unread : goal.returns-in_err-released-clause-unread
returns-in_err-released-clause-unread c =
    fails_as c.from_residual-in_err-released.result _ _ c.from_residual-in_err-released.ensures.1
    (λ failed. none_of (round_in c.args.row.now) (λ it reads.
    none_is _ _ (c.in_err-released.ensures.unread failed) (round_parts c.args.row.now it reads).released))

pub returns-in_err-published-clause-unread : goal.returns-in_err-published-clause-unread
returns-in_err-published-clause-unread c =
    fails_as c.from_residual-in_err-published.result _ _ c.from_residual-in_err-published.ensures.1
    (λ failed. none_of (round_in c.args.row.now) (λ it reads.
    none_is _ _ (c.in_err-published.ensures.unread failed) (round_parts c.args.row.now it reads).published))

pub returns-in_err-id-clause-unread : goal.returns-in_err-id-clause-unread
returns-in_err-id-clause-unread c =
    fails_as c.from_residual-in_err-id.result _ _ c.from_residual-in_err-id.ensures.1
    (λ failed. none_of (round_in c.args.row.now) (λ it reads.
    none_is _ _ (c.in_err-id.ensures.unread failed word_ascii) (round_parts c.args.row.now it reads).id))

pub returns-in_err-title-clause-unread : goal.returns-in_err-title-clause-unread
returns-in_err-title-clause-unread c =
    fails_as c.from_residual-in_err-title.result _ _ c.from_residual-in_err-title.ensures.1
    (λ failed. none_of (round_in c.args.row.now) (λ it reads.
    none_is _ _ (c.in_err-title.ensures.unread failed printable_ascii) (round_parts c.args.row.now it reads).title))
