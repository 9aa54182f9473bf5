use Rattle.std.proofs.Common.{◌≡◌, Some, sym, subst}
use Rattle.std.specs.Prelude.{slice_get}
use Rattle.hall_grid.specs.declared.board.Clue.TheVariants.{Number}
use Rattle.hall_nurikabe.proofs.MustLeave.{nobody_leaves, two_hopeless}
use Rattle.hall_nurikabe.proofs.round.look_at_white.Goals as goal

pub owner_of-requires : goal.owner_of-requires
owner_of-requires c =
    rw c.deref.ensures.value
    c.requires.1.found.below

pub returns-in-Two : goal.returns-in-Two
returns-in-Two c =
    let two = (rw (c.in-Two.is, c.deref.ensures.value) at c.owner_of.ensures) in
    two_hopeless c.args.position.now.puzzle.now c.args.position.now.kind c.args.position.now.partial.now.places
    c.args.position.now.fits c.requires.0
    c.args.group.now.places.items c.args.group.now.cells.items c.args.group.now.exits c.requires.1 two.0 two.1 two.2
    two.3 two.4 two.5 two.6

pub leave-requires-clause-leaves : goal.leave-requires-clause-leaves
leave-requires-clause-leaves c =
    nobody_leaves c.args.position.now.puzzle.now c.args.position.now.kind c.args.position.now.partial.now.places
    c.args.position.now.fits c.requires.0
    c.args.group.now.places.items c.args.group.now.cells.items c.args.group.now.exits c.requires.1
    (rw (c.in-Nobody.is, c.deref.ensures.value) at c.owner_of.ensures)

pub clue-requires : goal.clue-requires
clue-requires c =
    let one = (rw (c.in-One.is, c.deref.ensures.value) at c.owner_of.ensures) in
    c.requires.1.found.below c.in-One.cell one.0

pub look_at_numbered-requires-clause-given : goal.look_at_numbered-requires-clause-given
look_at_numbered-requires-clause-given c =
    let one = (rw (c.in-One.is, c.deref.ensures.value) at c.owner_of.ensures) in (
      c.in-One.cell,
      one.0,
      subst (λ n. slice_get c.args.position.now.puzzle.now.clues c.in-One.cell ≡ Some (Number n)) (sym c.from.ensures)
          c.in-Number.ensures,
    )
