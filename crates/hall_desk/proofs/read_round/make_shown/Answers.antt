use Rattle.hall_desk.proofs.Showing.{listed_kept}
use Rattle.hall_desk.proofs.read_round.make_shown.Goals as goal

pub show_round-requires : goal.show_round-requires
show_round-requires g c = λ h s.
    listed_kept (g.S.ReadStore.content c.args.store.now).world c.args.round.now c.args.row.now (c.requires.row h).1
