use Rattle.sqlite.specs.Held.{state}
use Rattle.hall_store.specs.declared.change.Change.TheVariants.{AddAnswer}
use Rattle.hall_sql.specs.declared.answers.TheConstants.{ADD_ANSWER}
use Rattle.hall_sql.specs.Columns.{answer_params}
use Rattle.hall_sql.proofs.AnswerWrites.{answer_added}
use Rattle.hall_sql.proofs.StopLemmas.{run_wrote}
use Rattle.hall_sql.proofs.Written.{add_answer_written}
use Rattle.hall_sql.proofs.answers.add_answer.Goals as goal

pub run-requires-clause-written : goal.run-requires-clause-written
run-requires-clause-written g c = rw c.columns.ensures (add_answer_written c.args.row.now)

pub returns-clause-wrote : goal.returns-clause-wrote
returns-clause-wrote g c =
    let old = state g.S.Store c.args.conn.now in
    run_wrote (AddAnswer c.args.row.now) ADD_ANSWER.now (answer_params c.args.row.now) old
    (state g.S.Store c.run.new.conn) c.run.result c.requires.hall
    (add_answer_written c.args.row.now) (λ was opened new count ran.
    answer_added c.args.row.now c.in_range.ensures old new count ran c.requires.hall was
    (λ opened. (c.requires.can was opened).fresh)) (rw c.columns.ensures at c.run.ensures.calls)
