use Rattle.std.proofs.Common.{arith}
use Rattle.hall_nurikabe.proofs.MustLeave.{few_leaves, full_forced, many_hopeless}
use Rattle.hall_nurikabe.proofs.round.look_at_numbered.Goals as goal

pub open_beside-requires : goal.open_beside-requires
open_beside-requires c =
    rw c.deref.ensures.value
    c.requires.group.1.found.below

pub returns-then-size-given : goal.returns-then-size-given
returns-then-size-given c =
    let e = c.len-size.ensures in
    many_hopeless c.args.position.now.puzzle.now c.args.position.now.kind c.args.position.now.partial.now.places
    c.args.position.now.fits c.requires.group.0
    c.args.group.now.places.items c.args.group.now.cells.items c.args.group.now.exits c.requires.group.1
    c.args.position.now.clues
    c.requires.given.0 c.args.given c.requires.given.1 c.requires.given.2 (omega arith)

pub leave-requires-clause-leaves : goal.leave-requires-clause-leaves
leave-requires-clause-leaves c =
    let e = c.len-size.ensures in
    few_leaves c.args.position.now.puzzle.now c.args.position.now.kind c.args.position.now.partial.now.places
    c.args.position.now.fits c.requires.group.0
    c.args.group.now.places.items c.args.group.now.cells.items c.args.group.now.exits c.requires.group.1
    c.args.position.now.clues
    c.requires.given.0 c.args.given c.requires.given.1 c.requires.given.2 (omega arith)

pub returns-in-Some : goal.returns-in-Some
returns-in-Some c =
    let e = c.len-size.ensures in
    full_forced c.args.position.now.puzzle.now c.args.position.now.kind c.args.position.now.partial.now.places
    c.args.position.now.fits c.requires.group.0
    c.args.group.now.places.items c.args.group.now.cells.items c.args.group.now.exits c.requires.group.1
    c.args.position.now.clues
    c.requires.given.0 c.args.given c.requires.given.1 c.requires.given.2 (omega arith) c.in-Some.cell
    (rw (c.in-Some.is, c.deref.ensures.value) at c.open_beside.ensures)
