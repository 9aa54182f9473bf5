use Rattle.hall_desk.proofs.Tablings.{table_asked}
use Rattle.hall_desk.proofs.tabling.told_round.Goals as goal

pub returns-in-Allow-clause-told : goal.returns-in-Allow-clause-told
returns-in-Allow-clause-told g c =
    table_asked (g.S.ReadStore.content c.find_round.new.store)
    (record c.no_facts-facts.result { round = c.in_ok-facts.field-0 }) c.args.request.now c.args.round.now _
    c.decide.result c.take.result c.requires c.in_ok-facts.ensures.served c.decide.ensures.decided c.in-Allow.is
    c.take.ensures.value
