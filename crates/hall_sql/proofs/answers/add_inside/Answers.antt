use Rattle.std.proofs.lemmas.Result.{on_ok_weaker}
use Rattle.sqlite.specs.Held.{state}
use Rattle.hall_sql.specs.declared.answers.TheConstants.{ADD_ANSWER}
use Rattle.hall_sql.specs.Columns.{answer_params}
use Rattle.hall_sql.specs.Fill.{AddsAnswer}
use Rattle.hall_sql.proofs.InsideLemmas.{did_run}
use Rattle.hall_sql.proofs.Written.{add_answer_written}
use Rattle.hall_sql.proofs.AnswerWrites.{answer_put}
use Rattle.hall_sql.proofs.answers.add_inside.Goals as goal

pub write_in-requires : goal.write_in-requires
write_in-requires g c = record { written = rw c.columns.ensures (add_answer_written c.args.row.now) }

pub returns-clause-done : goal.returns-clause-done
returns-clause-done g c clean inside =
    on_ok_weaker c.write_in.result (λ it.
    did_run (λ a b. AddsAnswer a c.args.row.now b) ADD_ANSWER.now (answer_params c.args.row.now)
    (state g.S.Store c.args.tx.now.conn.now) (state g.S.Store c.write_in.new.tx.conn.now) it
    (answer_put c.args.row.now c.in_range.ensures _ _)) ((rw c.columns.ensures at c.write_in.ensures.ran) clean inside)
