use Rattle.hall_desk.proofs.RoundPlans.{round_denied, round_planned}
use Rattle.hall_desk.proofs.read_round.plan_round.Goals as goal

pub returns-in-Deny-clause-told : goal.returns-in-Deny-clause-told
returns-in-Deny-clause-told g c =
    let told = round_denied (g.S.ReadStore.content c.args.store.now) (g.S.ReadStore.content c.find_round.new.store) _
    c.args.asked.now.t c.args.asked.now.request.now c.args.round.now
    c.requires.action c.requires.caller c.in_ok-facts.ensures.kept c.in_ok-facts.ensures.served c.decide.result
    c.decide.ensures.decided c.in-Deny.rule c.of.result c.in-Deny.is c.of.ensures in
    ((λ h s. (told h).0), (λ h s. (told h).1))

pub returns-in_ok-shown-in-Allow-clause-told : goal.returns-in_ok-shown-in-Allow-clause-told
returns-in_ok-shown-in-Allow-clause-told g c =
    let told = round_planned (g.S.ReadStore.content c.args.store.now) (g.S.ReadStore.content c.find_round.new.store) _
    c.args.asked.now.t c.args.asked.now.request.now c.args.round.now
    c.requires.action c.requires.caller c.in_ok-facts.ensures.kept c.in_ok-facts.ensures.served c.decide.result
    c.decide.ensures.decided
    (g.S.ReadStore.content c.make_shown.new.store) c.in_ok-shown-in-Allow.shown c.of-in-Allow.result c.in-Allow.is
    c.in_ok-shown-in-Allow.ensures.kept c.in_ok-shown-in-Allow.ensures.served c.of-in-Allow.ensures in
    ((λ h s. (told h).0), (λ h s. (told h).1))
