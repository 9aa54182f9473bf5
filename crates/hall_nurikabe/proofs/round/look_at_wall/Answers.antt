use Rattle.hall_nurikabe.proofs.MustLeave.{wall_leaves}
use Rattle.hall_nurikabe.proofs.round.look_at_wall.Goals as goal

pub leave-requires-clause-leaves : goal.leave-requires-clause-leaves
leave-requires-clause-leaves c =
    wall_leaves c.args.position.now.puzzle.now c.args.position.now.kind c.args.position.now.partial.now.places
    c.args.position.now.fits c.requires.0
    c.args.group.now.places.items c.args.group.now.cells.items c.args.group.now.exits c.requires.1
    (c.has_other_wall.ensures c.if-not-has_other_wall.false)
