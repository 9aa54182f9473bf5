use Rattle.std.proofs.Common.{ap, sym, ◌∙◌}
use Rattle.sqlite.specs.Held.{state}
use Rattle.hall_store.specs.declared.change.Change.TheVariants.{SetRoundFlag}
use Rattle.hall_sql.specs.Rows.{world_of}
use Rattle.hall_sql.specs.Spared.{may_write}
use Rattle.hall_store.specs.Change.{changed, flagged}
use Rattle.hall_sql.proofs.RoundWrites.{head_own, head_under}
use Rattle.hall_sql.proofs.WriteLemmas.{rested_then, wrote_too}
use Rattle.std.specs.FinMap.{get}
use Rattle.hall_sql.specs.declared.round_writes.TheConstants.{REPLACE_HEAD}
use Rattle.hall_sql.specs.RoundColumns.{head_params}
use Rattle.hall_sql.proofs.WriteCauseLemmas.{found_fails, run_served}
use Rattle.hall_sql.specs.WriteCause.{RunFails}
use Rattle.hall_policy.specs.declared.record.Round.{Round}
use Rattle.hall_sql.proofs.round_writes.set_round_flag.Goals as goal

pub set_flag-requires-clause-found : goal.set_flag-requires-clause-found
set_flag-requires-clause-found g c clean =
    head_under c.args.id.now (state g.S.Store c.head.new.conn) c.in-Some.round
    (rw c.in-Some.is at (c.in_ok-round.ensures.alone clean))

pub returns-in-Some-clause-wrote : goal.returns-in-Some-clause-wrote
returns-in-Some-clause-wrote g c =
    let mid = state g.S.Store c.head.new.conn in
    let new = state g.S.Store c.set_flag.new.conn in
    rested_then (SetRoundFlag c.args.id.now c.args.flag) (state g.S.Store c.args.conn.now) mid new c.set_flag.result
    c.head.ensures.reads.rested
    (λ clean. (c.in_ok-round.ensures.reads.served clean).0)
    (wrote_too (SetRoundFlag c.in-Some.round.id c.args.flag) (SetRoundFlag c.args.id.now c.args.flag) mid new
    c.set_flag.result
    (λ clean.
    let own = head_own c.args.id.now mid c.in-Some.round (rw c.in-Some.is at (c.in_ok-round.ensures.alone clean)) in (
      ap (λ id. changed (SetRoundFlag id c.args.flag) (world_of mid.now.trees)) own,
      ap
          (λ id. may_write (SetRoundFlag id c.args.flag)) own,
    ))
    c.set_flag.ensures.wrote)

pub returns-in-Some-clause-cause : goal.returns-in-Some-clause-cause
returns-in-Some-clause-cause g c =
    let old = state g.S.Store c.args.conn.now in
    let mid = state g.S.Store c.head.new.conn in
    let new = state g.S.Store c.set_flag.new.conn in
    let put = λ (round : Round). head_params (flagged c.args.flag round) in
    found_fails _ (λ round. RunFails REPLACE_HEAD.now (put round) old new) (λ world. get world.rounds c.args.id.now)
    c.in-Some.round
    old mid new c.set_flag.result c.head.ensures.reads.rested c.set_flag.ensures.wrote.makes.leads.honest
    (λ was. let it = c.in_ok-round.ensures.reads.served was in (it.0, sym it.1 ∙ c.in-Some.is))
    (run_served REPLACE_HEAD.now (put c.in-Some.round) old mid new) c.set_flag.ensures.cause
