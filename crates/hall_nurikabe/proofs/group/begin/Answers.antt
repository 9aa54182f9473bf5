use Rattle.std.proofs.Common.{arith}
use Rattle.hall_nurikabe.proofs.IsFound.{IsFound-begin}
use Rattle.hall_nurikabe.proofs.group.begin.Goals as goal

pub returns-clause-found : goal.returns-clause-found
returns-clause-found c = λ value here.
    let size = c.args.position.now.puzzle.now.size in
    rw (c.in_ok-push.ensures.items, c.clear.ensures.items)
    (IsFound-begin size c.args.position.now.partial.now.places value c.make_room.new.places.items c.args.from
    (omega (arith, c.in_ok-make_room.ensures, c.cells.ensures.cells)) c.requires.from here)
