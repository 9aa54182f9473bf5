use Rattle.std.proofs.Common.{arith}
use Rattle.hall_sql.specs.Rows.{answer_in}
use Rattle.hall_store.proofs.Knowing.{fails_as}
use Rattle.hall_sql.proofs.CauseLemmas.{none_of, none_is}
use Rattle.hall_sql.proofs.UnreadLemmas.{printable_ascii}
use Rattle.hall_sql.proofs.RecordParts.{answer_parts}
use Rattle.hall_sql.proofs.record.AnswerRowRecord.from_row.Goals as goal

pub returns-in_err-n-clause-unread : goal.returns-in_err-n-clause-unread
returns-in_err-n-clause-unread c =
    fails_as c.from_residual.result _ _ c.from_residual.ensures.1
    (λ failed. none_of (answer_in c.args.row.now) (λ it reads.
    none_is _ _ (c.in_err-n.ensures.unread failed (omega arith)) (answer_parts c.args.row.now it reads).n))

pub returns-in_err-moment-clause-unread : goal.returns-in_err-moment-clause-unread
returns-in_err-moment-clause-unread c =
    fails_as c.from_residual-in_err-moment.result _ _ c.from_residual-in_err-moment.ensures.1
    (λ failed. none_of (answer_in c.args.row.now) (λ it reads.
    none_is _ _ (c.in_err-moment.ensures.unread failed (omega arith)) (answer_parts c.args.row.now it reads).moment))

pub returns-in_err-verdict-clause-unread : goal.returns-in_err-verdict-clause-unread
returns-in_err-verdict-clause-unread c =
    fails_as c.from_residual-in_err-verdict.result _ _ c.from_residual-in_err-verdict.ensures.1
    (λ failed. none_of (answer_in c.args.row.now) (λ it reads.
    none_is _ _ (c.in_err-verdict.ensures.unread failed) (answer_parts c.args.row.now it reads).verdict))

pub returns-in_err-answer-clause-unread : goal.returns-in_err-answer-clause-unread
returns-in_err-answer-clause-unread c =
    fails_as c.from_residual-in_err-answer.result _ _ c.from_residual-in_err-answer.ensures.1
    (λ failed. none_of (answer_in c.args.row.now) (λ it reads.
    none_is _ _ (c.in_err-answer.ensures.unread failed printable_ascii) (answer_parts c.args.row.now it reads).answer))

pub returns-in_err-key-clause-unread : goal.returns-in_err-key-clause-unread
returns-in_err-key-clause-unread c =
    fails_as c.from_residual-in_err-key.result _ _ c.from_residual-in_err-key.ensures.1
    (λ failed. none_of (answer_in c.args.row.now) (λ it reads. let parts = answer_parts c.args.row.now it reads in
    c.in_err-key.ensures.unread failed it.key (record {
      entrant = parts.entrant;
      round = parts.round;
      number =
          parts.number;
      token = parts.token;
    })))
