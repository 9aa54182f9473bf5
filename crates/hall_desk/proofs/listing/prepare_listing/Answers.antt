use Rattle.hall_desk.proofs.ListingsOn.{listing_waits}
use Rattle.hall_desk.proofs.listing.prepare_listing.Goals as goal

pub returns-clause-waits : goal.returns-clause-waits
returns-clause-waits g c = λ waits.
    listing_waits (g.S.ReadStore.content c.may_list.new.store) (g.S.ReadStore.content c.go_on.new.store)
    c.args.request.now c.args.round.now c.args.listings.now c.go_on.new.listings c.requires.action
    c.go_on.ensures.kept (λ h.
    let told = c.in_ok-may_list.ensures.asks h in
    (told.0, told.1 c.if-not-branch.false))
    (c.go_on.ensures.waits waits)
