use Rattle.std.proofs.Common.{◌≡◌}
use Rattle.hall_store.proofs.Knowing.{carried}
use Rattle.hall_store.specs.Caller.{caller_of}
use Rattle.hall_desk.proofs.ListingsOn.{listing_asked}
use Rattle.hall_desk.proofs.listing.may_by_facts.Goals as goal

pub returns-in-Allow-clause-asks : goal.returns-in-Allow-clause-asks
returns-in-Allow-clause-asks g c = λ h.
    let request = c.args.request.now in
    let asked = listing_asked (g.S.ReadStore.content c.find_round.new.store) _ request c.args.round.now _
    c.decide.result c.requires.action
    (carried (λ w. c.args.facts.now.caller ≡ caller_of w request.key) _ _ c.in_ok-facts.ensures.kept c.requires.caller)
    (c.is_official.ensures c.if-not-is_official.false) c.in_ok-facts.ensures.served c.decide.ensures.decided
    c.in-Allow.is h in (asked.0, λ yes. asked.1)
