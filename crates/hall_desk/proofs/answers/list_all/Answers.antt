use Rattle.std.proofs.Common.{None}
use Rattle.hall_store.specs.Store.{IsListing, is_between}
use Rattle.hall_store.proofs.Slices.{slices_whole}
use Rattle.hall_store.proofs.Feeds.{fed_now}
use Rattle.hall_desk.specs.Lines.{IsLineAdded}
use Rattle.hall_desk.proofs.answers.list_all.Goals as goal

pub returns-clause-served : goal.returns-clause-served
returns-clause-served g c = λ h.
    let it = c.in_ok-feed_answers.ensures in
    let fed = fed_now IsLineAdded (λ world rows. IsListing world (is_between c.args.round.now None None) rows)
    (g.S.ReadStore.content c.args.store.now)
    (g.S.ReadStore.content c.feed_answers.new.self) _ _ it.kept it.fed h in
    let rows = fed.1.0 in (
      fed.0,
      (
        rows,
        slices_whole _ c.args.round.now rows fed.1.1,
        c.in_ok-end.ensures _ _ rows c.in_ok-lines.ensures fed.1.2,
      ),
    )
