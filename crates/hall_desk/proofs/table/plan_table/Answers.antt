use Rattle.hall_desk.proofs.Copied.{tables_kept}
use Rattle.hall_desk.proofs.TablePlans.{table_denied, table_planned}
use Rattle.hall_desk.proofs.table.plan_table.Goals as goal

pub returns-in-Deny-clause-served : goal.returns-in-Deny-clause-served
returns-in-Deny-clause-served g c =
    table_denied (g.S.ReadStore.content c.args.store.now) (g.S.ReadStore.content c.find_round.new.store) _
    c.args.asked.now.t c.args.asked.now.request.now c.args.round.now
    c.requires.action c.requires.caller c.in_ok-facts.ensures.kept c.in_ok-facts.ensures.served c.decide.result
    c.decide.ensures.decided c.in-Deny.rule c.of.result c.in-Deny.is c.of.ensures

pub returns-in_ok-text-in-Allow-clause-served : goal.returns-in_ok-text-in-Allow-clause-served
returns-in_ok-text-in-Allow-clause-served g c =
    table_planned (g.S.ReadStore.content c.args.store.now) (g.S.ReadStore.content c.find_round.new.store) _
    c.args.asked.now.t c.args.asked.now.request.now c.args.round.now
    c.requires.action c.requires.caller c.in_ok-facts.ensures.kept c.in_ok-facts.ensures.served c.decide.result
    c.decide.ensures.decided
    (g.S.ReadStore.content c.make_table.new.store) c.in_ok-text-in-Allow.text c.of-in-Allow.result c.in-Allow.is
    c.in_ok-text-in-Allow.ensures.kept c.in_ok-text-in-Allow.ensures.served c.of-in-Allow.ensures

pub returns-in_err-facts-clause-copied : goal.returns-in_err-facts-clause-copied
returns-in_err-facts-clause-copied g c = tables_kept _ _ c.args.copied.now c.find_round.ensures.kept c.requires.copied

pub make_table-requires-clause-copied : goal.make_table-requires-clause-copied
make_table-requires-clause-copied g c = tables_kept _ _ c.args.copied.now c.in_ok-facts.ensures.kept c.requires.copied

pub returns-in-Deny-clause-copied : goal.returns-in-Deny-clause-copied
returns-in-Deny-clause-copied g c = tables_kept _ _ c.args.copied.now c.in_ok-facts.ensures.kept c.requires.copied
