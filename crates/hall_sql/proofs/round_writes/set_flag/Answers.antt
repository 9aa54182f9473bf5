use Rattle.sqlite.specs.Held.{state}
use Rattle.hall_store.specs.Change.{flagged}
use Rattle.hall_store.specs.declared.change.Change.TheVariants.{SetRoundFlag}
use Rattle.hall_sql.specs.declared.round_writes.TheConstants.{REPLACE_HEAD}
use Rattle.hall_sql.specs.RoundColumns.{head_params}
use Rattle.hall_sql.proofs.RoundWrites.{head_flagged}
use Rattle.hall_sql.proofs.StopLemmas.{run_wrote}
use Rattle.hall_sql.proofs.Written.{replace_head_written}
use Rattle.hall_sql.proofs.round_writes.set_flag.Goals as goal

pub run-requires-clause-written : goal.run-requires-clause-written
run-requires-clause-written g c = rw (c.columns.ensures, c.flagged-flagged.ensures)
    (replace_head_written (flagged c.args.flag c.args.round))

pub returns-clause-wrote : goal.returns-clause-wrote
returns-clause-wrote g c =
    let old = state g.S.Store c.args.conn.now in
    run_wrote (SetRoundFlag c.args.round.id c.args.flag) REPLACE_HEAD.now
    (head_params (flagged c.args.flag c.args.round)) old (state g.S.Store c.run.new.conn) c.run.result
    c.requires.hall
    (replace_head_written (flagged c.args.flag c.args.round)) (λ was opened new count ran.
    head_flagged c.args.flag c.args.round (rw c.flagged-flagged.ensures at c.in_range.ensures) old new count
    c.requires.hall was
    (c.requires.found was) ran) (rw (c.columns.ensures, c.flagged-flagged.ensures) at c.run.ensures.calls)

pub returns-clause-cause : goal.returns-clause-cause
returns-clause-cause g c = rw (c.columns.ensures, c.flagged-flagged.ensures) at c.run.ensures.cause
