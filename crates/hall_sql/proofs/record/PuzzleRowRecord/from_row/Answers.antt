use Rattle.hall_sql.specs.Rows.{puzzle_row_in}
use Rattle.hall_store.proofs.Knowing.{fails_as}
use Rattle.hall_sql.proofs.CauseLemmas.{none_of, none_is}
use Rattle.hall_sql.proofs.UnreadLemmas.{word_ascii}
use Rattle.hall_sql.proofs.RecordParts.{puzzle_parts}
use Rattle.hall_sql.proofs.record.PuzzleRowRecord.from_row.Goals as goal

pub returns-in_err-author-clause-unread : goal.returns-in_err-author-clause-unread
returns-in_err-author-clause-unread c =
    fails_as c.from_residual.result _ _ c.from_residual.ensures.1
    (λ failed. none_of (puzzle_row_in c.args.row.now) (λ it reads.
    none_is _ _ (c.in_err-author.ensures.unread failed word_ascii) (puzzle_parts c.args.row.now it reads).author))

pub returns-in_err-label-clause-unread : goal.returns-in_err-label-clause-unread
returns-in_err-label-clause-unread c =
    fails_as c.from_residual-in_err-label.result _ _ c.from_residual-in_err-label.ensures.1
    (λ failed. none_of (puzzle_row_in c.args.row.now) (λ it reads.
    none_is _ _ (c.in_err-label.ensures.unread failed word_ascii) (puzzle_parts c.args.row.now it reads).label))

pub returns-in_err-puzzle-clause-unread : goal.returns-in_err-puzzle-clause-unread
returns-in_err-puzzle-clause-unread c =
    fails_as c.from_residual-in_err-puzzle.result _ _ c.from_residual-in_err-puzzle.ensures.1
    (λ failed. none_of (puzzle_row_in c.args.row.now) (λ it reads.
    none_is _ _ (c.in_err-puzzle.ensures.unread failed) (puzzle_parts c.args.row.now it reads).puzzle))

pub returns-in_err-state-clause-unread : goal.returns-in_err-state-clause-unread
returns-in_err-state-clause-unread c =
    fails_as c.from_residual-in_err-state.result _ _ c.from_residual-in_err-state.ensures.1
    (λ failed. none_of (puzzle_row_in c.args.row.now) (λ it reads.
    none_is _ _ (c.in_err-state.ensures.unread failed) (puzzle_parts c.args.row.now it reads).state))
