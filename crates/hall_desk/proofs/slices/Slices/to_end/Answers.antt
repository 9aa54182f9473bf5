use Rattle.std.proofs.Common.{None, refl}
use Rattle.hall_store.specs.Store.{IsListing, is_between}
use Rattle.hall_store.proofs.Feeds.{fed_now}
use Rattle.hall_desk.proofs.slices.Slices.to_end.Goals as goal

pub returns-clause-sliced : goal.returns-clause-sliced
returns-clause-sliced g c = λ h.
    let slices = c.args.self in
    let it = fed_now g.K.Sink.takes
    (λ world rows. IsListing world (is_between slices.round slices.after None) rows)
    (g.S.ReadStore.content c.args.store.now) (g.S.ReadStore.content c.feed_answers.new.self) _ _
    c.in_ok-feed_answers.ensures.kept c.in_ok-feed_answers.ensures.fed h in
    (it.0, (refl, it.1))
