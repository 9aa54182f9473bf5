use Rattle.hall_desk.proofs.AnswerPlans.{listing_denied, listing_planned}
use Rattle.hall_desk.proofs.Copied.{listings_kept}
use Rattle.hall_desk.proofs.answers.plan_answers.Goals as goal

pub returns-in-Deny-clause-told : goal.returns-in-Deny-clause-told
returns-in-Deny-clause-told g c =
    let told = listing_denied (g.S.ReadStore.content c.args.store.now) (g.S.ReadStore.content c.find_round.new.store) _
    c.args.asked.now.t c.args.asked.now.request.now c.args.round.now
    c.requires.action c.requires.caller c.in_ok-facts.ensures.kept c.in_ok-facts.ensures.served c.decide.result
    c.decide.ensures.decided c.in-Deny.rule c.of.result c.in-Deny.is c.of.ensures in
    ((λ h s. (told h).0), (λ h s. (told h).1))

pub returns-in_ok-lines-in-Allow-clause-told : goal.returns-in_ok-lines-in-Allow-clause-told
returns-in_ok-lines-in-Allow-clause-told g c =
    let told = listing_planned (g.S.ReadStore.content c.args.store.now) (g.S.ReadStore.content c.find_round.new.store)
    _ c.args.asked.now.t c.args.asked.now.request.now c.args.round.now
    c.requires.action c.requires.caller c.in_ok-facts.ensures.kept c.in_ok-facts.ensures.served c.decide.result
    c.decide.ensures.decided
    (g.S.ReadStore.content c.list_answers.new.store) c.in-Some.person c.in-Some-round.row
    c.in_ok-lines-in-Allow.lines c.of-in-Allow.result c.in-Some.is c.in-Some-round.is c.in-Allow.is
    c.in_ok-lines-in-Allow.ensures.kept c.in_ok-lines-in-Allow.ensures.served c.of-in-Allow.ensures in
    ((λ h s. (told h).0), (λ h s. (told h).1))

pub returns-in_err-facts-clause-listed : goal.returns-in_err-facts-clause-listed
returns-in_err-facts-clause-listed g c =
    listings_kept _ _ c.args.listings.now c.find_round.ensures.kept c.requires.listed

pub list_answers-requires-clause-listed : goal.list_answers-requires-clause-listed
list_answers-requires-clause-listed g c =
    listings_kept _ _ c.args.listings.now c.in_ok-facts.ensures.kept c.requires.listed

pub returns-in-Deny-clause-listed : goal.returns-in-Deny-clause-listed
returns-in-Deny-clause-listed g c =
    listings_kept _ _ c.args.listings.now c.in_ok-facts.ensures.kept c.requires.listed
