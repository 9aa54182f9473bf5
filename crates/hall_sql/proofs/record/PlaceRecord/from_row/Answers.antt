use Rattle.std.proofs.Common.{arith}
use Rattle.hall_sql.specs.Rows.{place_in}
use Rattle.hall_store.proofs.Knowing.{fails_as}
use Rattle.hall_sql.proofs.CauseLemmas.{none_of, none_is}
use Rattle.hall_sql.proofs.UnreadLemmas.{word_ascii}
use Rattle.hall_sql.proofs.RecordParts.{place_parts}
use Rattle.hall_sql.proofs.record.PlaceRecord.from_row.Goals as goal

pub returns-in_err-number-clause-unread : goal.returns-in_err-number-clause-unread
returns-in_err-number-clause-unread c =
    fails_as c.from_residual.result _ _ c.from_residual.ensures.1
    (λ failed. none_of (place_in c.args.row.now) (λ it reads.
    none_is _ _ (c.in_err-number.ensures.unread failed (omega arith)) (place_parts c.args.row.now it reads).number))

pub returns-in_err-points-clause-unread : goal.returns-in_err-points-clause-unread
returns-in_err-points-clause-unread c =
    fails_as c.from_residual-in_err-points.result _ _ c.from_residual-in_err-points.ensures.1
    (λ failed. none_of (place_in c.args.row.now) (λ it reads.
    none_is _ _ (c.in_err-points.ensures.unread failed (omega arith)) (place_parts c.args.row.now it reads).points))

pub returns-in_err-round-clause-unread : goal.returns-in_err-round-clause-unread
returns-in_err-round-clause-unread c =
    fails_as c.from_residual-in_err-round.result _ _ c.from_residual-in_err-round.ensures.1
    (λ failed. none_of (place_in c.args.row.now) (λ it reads.
    none_is _ _ (c.in_err-round.ensures.unread failed word_ascii) (place_parts c.args.row.now it reads).round))

pub returns-in_err-author-clause-unread : goal.returns-in_err-author-clause-unread
returns-in_err-author-clause-unread c =
    fails_as c.from_residual-in_err-author.result _ _ c.from_residual-in_err-author.ensures.1
    (λ failed. none_of (place_in c.args.row.now) (λ it reads.
    none_is _ _ (c.in_err-author.ensures.unread failed word_ascii) (place_parts c.args.row.now it reads).author))

pub returns-in_err-label-clause-unread : goal.returns-in_err-label-clause-unread
returns-in_err-label-clause-unread c =
    fails_as c.from_residual-in_err-label.result _ _ c.from_residual-in_err-label.ensures.1
    (λ failed. none_of (place_in c.args.row.now) (λ it reads.
    none_is _ _ (c.in_err-label.ensures.unread failed word_ascii) (place_parts c.args.row.now it reads).label))
