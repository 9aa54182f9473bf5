use Rattle.std.proofs.Common.{◌<◌, subst, arith}
use Rattle.hall_grid.specs.declared.board.Size.{Size}
use Rattle.hall_grid.specs.Board.{cells}
use Rattle.hall_grid.proofs.Labelling.{place_in}
use Rattle.hall_nurikabe.proofs.turn.is_worth_trying.Goals as goal

pub get-requires-in-Some : goal.get-requires-in-Some
get-requires-in-Some c =
    let low : c.in-Some.other < cells c.size.result =
    ((c.neighbours-place-items.ensures.touching c.in-Some.other).0
    (place_in c.neighbours-place-items.result c.loop-place.place-index _ _ (omega arith) c.in-Some.is)).0 in
    let here = subst (λ (s : Size). c.in-Some.other < cells s) c.size.ensures.size low in
    omega (arith, here, c.requires.partial.size)
