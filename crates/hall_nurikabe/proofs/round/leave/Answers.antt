use Rattle.hall_nurikabe.proofs.MustLeave.{exit_forced, shut_hopeless}
use Rattle.hall_nurikabe.proofs.round.leave.Goals as goal

pub returns-in-Nowhere : goal.returns-in-Nowhere
returns-in-Nowhere c =
    shut_hopeless c.args.position.now.puzzle.now c.args.position.now.partial.now.places c.args.position.now.fits
    c.args.value c.requires.group.0
    c.args.group.now.places.items c.args.group.now.cells.items c.args.group.now.exits c.requires.group.1
    c.requires.leaves c.in-Nowhere.is

pub returns-in-One : goal.returns-in-One
returns-in-One c =
    exit_forced c.args.position.now.puzzle.now c.args.position.now.partial.now.places c.args.position.now.fits
    c.args.value c.requires.group.0
    c.args.group.now.places.items c.args.group.now.cells.items c.args.group.now.exits c.requires.group.1
    c.requires.leaves c.requires.value
    c.in-One.cell c.in-One.is
