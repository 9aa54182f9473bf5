use Rattle.std.proofs.Common.{◌<◌, arith}
use Rattle.hall_grid.specs.Board.{cells}
use Rattle.hall_grid.proofs.Labelling.{place_in}
use Rattle.hall_nurikabe.proofs.branch.add_exits.Goals as goal

pub offset_bounds-labels-other : goal.offset_bounds-labels-other
offset_bounds-labels-other c =
    let low : c.in-Some.other < cells c.args.size =
    ((c.neighbours-place-items.ensures.touching c.in-Some.other).0
    (place_in c.neighbours-place-items.result c.loop-place.place-index _ _ (omega arith) c.in-Some.is)).0 in
    omega arith

pub bounds : goal.bounds
bounds c =
    let low : c.in-Some.other < cells c.args.size =
    ((c.neighbours-place-items.ensures.touching c.in-Some.other).0
    (place_in c.neighbours-place-items.result c.loop-place.place-index _ _ (omega arith) c.in-Some.is)).0 in
    omega arith
