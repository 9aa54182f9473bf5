use Rattle.sqlite.specs.Held.{state}
use Rattle.hall_store.specs.declared.change.Change.TheVariants.{RuleProtest}
use Rattle.hall_sql.proofs.WriteLemmas.{rested_then}
use Rattle.std.proofs.Common.{◌∙◌, Some, sym}
use Rattle.std.specs.FinMap.{get}
use Rattle.hall_sql.specs.declared.protests.TheConstants.{RULE_PROTEST}
use Rattle.hall_sql.specs.Columns.{ruling_params}
use Rattle.hall_sql.proofs.WriteCauseLemmas.{found_fails, run_served}
use Rattle.hall_sql.specs.WriteCause.{RunFails}
use Rattle.hall_sql.proofs.protests.rule_protest.Goals as goal

pub returns-in-Some-clause-wrote : goal.returns-in-Some-clause-wrote
returns-in-Some-clause-wrote g c =
    rested_then (RuleProtest c.args.key.now c.args.ruling) (state g.S.Store c.args.conn.now)
    (state g.S.Store c.protest.new.conn) _ c.rule_found.result
    c.protest.ensures.reads.rested (λ clean. (c.in_ok-row.ensures.reads.served clean).0) c.rule_found.ensures.wrote

pub returns-in-Some-clause-cause : goal.returns-in-Some-clause-cause
returns-in-Some-clause-cause g c =
    let old = state g.S.Store c.args.conn.now in
    let mid = state g.S.Store c.protest.new.conn in
    let new = state g.S.Store c.rule_found.new.conn in
    let params = ruling_params c.args.key.now (Some c.args.ruling) in
    found_fails _ (λ row. RunFails RULE_PROTEST.now params old new) (λ world. get world.protests c.args.key.now)
    c.in-Some.row
    old mid new c.rule_found.result c.protest.ensures.reads.rested c.rule_found.ensures.wrote.makes.leads.honest
    (λ was. let it = c.in_ok-row.ensures.reads.served was in (it.0, sym it.1 ∙ c.in-Some.is))
    (run_served RULE_PROTEST.now params old mid new) c.rule_found.ensures.cause
