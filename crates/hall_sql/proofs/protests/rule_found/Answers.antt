use Rattle.std.proofs.Common.{Some}
use Rattle.sqlite.specs.Held.{state}
use Rattle.hall_store.specs.declared.change.Change.TheVariants.{RuleProtest}
use Rattle.hall_sql.specs.declared.protests.TheConstants.{RULE_PROTEST}
use Rattle.hall_sql.specs.Columns.{ruling_params}
use Rattle.hall_sql.proofs.ProtestWrites.{protest_ruled}
use Rattle.hall_sql.proofs.StopLemmas.{run_wrote}
use Rattle.hall_sql.proofs.Written.{rule_protest_written}
use Rattle.hall_sql.proofs.protests.rule_found.Goals as goal

pub run-requires-clause-written : goal.run-requires-clause-written
run-requires-clause-written g c = rw c.ruling_columns.ensures.bound
    (rule_protest_written c.args.key.now (Some c.args.ruling))

pub returns-clause-wrote : goal.returns-clause-wrote
returns-clause-wrote g c =
    let old = state g.S.Store c.args.conn.now in
    run_wrote (RuleProtest c.args.key.now c.args.ruling) RULE_PROTEST.now
    (ruling_params c.args.key.now (Some c.args.ruling)) old (state g.S.Store c.run.new.conn) c.run.result
    c.requires.hall
    (rule_protest_written c.args.key.now (Some c.args.ruling)) (λ was opened new count ran.
    protest_ruled c.args.key.now c.args.row.now c.args.ruling c.in_range.ensures c.ruling_columns.ensures.in_range old
    new count
    c.requires.hall was (c.requires.alone was) ran) (rw c.ruling_columns.ensures.bound at c.run.ensures.calls)
