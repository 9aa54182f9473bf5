use Rattle.std.proofs.lemmas.Result.{IfOk-weaker, IfErr-weaker}
use Rattle.hall_sql.specs.Rows.{answer_in}
use Rattle.hall_sql.proofs.CauseLemmas.{none_of}
use Rattle.hall_sql.proofs.CountLemmas.{answer_read}
use Rattle.hall_sql.proofs.RecordParts.{answer_parts}
use Rattle.hall_sql.proofs.counts.AnswerRowCounted.look.Goals as goal

pub returns-clause-one : goal.returns-clause-one
returns-clause-one c =
    IfOk-weaker c.look_at_key.result _ _ (λ done key. answer_read c.args.row.now key
    (c.in_ok-_n._n, c.in_ok-_n.ensures.number) (c.in_ok-_moment._moment, c.in_ok-_moment.ensures.number)
    c.in_ok-_answer.ensures.text (c.in_ok-_verdict._verdict, c.in_ok-_verdict.ensures.verdict))
    c.look_at_key.ensures.key

pub returns-clause-unread : goal.returns-clause-unread
returns-clause-unread c =
    IfErr-weaker c.look_at_key.result _ _ (λ fault unread failed. none_of (answer_in c.args.row.now) (λ it reads.
    let parts = answer_parts c.args.row.now it reads in
    unread failed it.key (record {
      entrant = parts.entrant;
      round = parts.round;
      number = parts.number;
      token =
          parts.token;
    })))
    c.look_at_key.ensures.unread
