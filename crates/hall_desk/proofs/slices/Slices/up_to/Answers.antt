use Rattle.std.proofs.Common.{Some, refl}
use Rattle.hall_store.specs.Store.{IsListing, is_between}
use Rattle.hall_store.proofs.Feeds.{fed_now}
use Rattle.hall_desk.proofs.slices.Slices.up_to.Goals as goal

pub returns-clause-on : goal.returns-clause-on
returns-clause-on g c = λ h.
    let slices = c.args.self in
    let kept = c.in_ok-feed_answers.ensures.kept in
    let it = fed_now g.K.Sink.takes
    (λ world rows. IsListing world (is_between slices.round slices.after (Some c.args.name)) rows)
    (g.S.ReadStore.content c.args.store.now) (g.S.ReadStore.content c.feed_answers.new.self) _ _ kept
    c.in_ok-feed_answers.ensures.fed h in (
      it.0,
      (
        record {
          same = refl;
          name = c.args.name;
          up_to = refl;
          later = c.requires (kept.honest h) (kept.serves h it.0);
        },
        it.1,
      ),
    )
