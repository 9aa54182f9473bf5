use Rattle.std.proofs.Common.{◌≡◌, ◌<◌, Some, None, get_or, subst, arith, rules}
use Rattle.hall_grid.specs.declared.board.Size.{Size}
use Rattle.hall_grid.specs.Board.{cells, Touch}
use Rattle.hall_grid.specs.Component.{IsLabelled}
use Rattle.hall_grid.proofs.Labelling.{place_in, labelled_below}
use Rattle.hall_nurikabe.proofs.steps.room_beside.Goals as goal

pub offset_bounds-labels-other : goal.offset_bounds-labels-other
offset_bounds-labels-other c =
    let low : c.in-Some.other < cells c.size.result =
    ((c.neighbours-place-items.ensures.touching c.in-Some.other).0
    (place_in c.neighbours-place-items.result c.loop-place.place-index _ _ (omega arith) c.in-Some.is)).0 in
    let here = subst (λ (s : Size). c.in-Some.other < cells s) c.size.ensures.size low in
    omega (arith, here, c.requires.exact)

pub bounds : goal.bounds
bounds c =
    let low : c.in-Some.other < cells c.size.result =
    ((c.neighbours-place-items.ensures.touching c.in-Some.other).0
    (place_in c.neighbours-place-items.result c.loop-place.place-index _ _ (omega arith) c.in-Some.is)).0 in
    let here = subst (λ (s : Size). c.in-Some.other < cells s) c.size.ensures.size low in
    omega (arith, here, c.requires.exact)

pub most_cells-requires : goal.most_cells-requires
most_cells-requires c =
    let has : get_or c.args.owners.now c.in-Some-labels.label None ≡ Some c.in-Some-owners.owner = search rules in
    let low = labelled_below c.args.labels.now c.in-Some-owners.owner c.in-Some-labels.label
    (c.requires.owners.owner c.in-Some-labels.label c.in-Some-owners.owner has).1 in
    let whole = c.requires.exact in
    omega arith

pub returns-in-Some-owners : goal.returns-in-Some-owners
returns-in-Some-owners c = λ left e.
    let other = c.in-Some.other in
    let label = c.in-Some-labels.label in
    let owner = c.in-Some-owners.owner in
    let touch : Touch c.size.result c.args.cell other =
    ((c.neighbours-place-items.ensures.touching other).0 (place_in c.neighbours-place-items.result
    c.loop-place.place-index _ _ (omega arith) c.in-Some.is)).1 in
    let here = subst (λ (s : Size). Touch s c.args.cell other) c.size.ensures.size touch in
    let labelled : IsLabelled c.args.labels.now other label = search rules in
    let has : get_or c.args.owners.now label None ≡ Some owner = search rules in
    let same : c.saturating_sub.result ≡ left = cc in (
      label,
      owner,
      (other, here, labelled),
      has,
      λ n h. let enough = c.most_cells.ensures n h in let less =
          c.saturating_sub.ensures in omega arith,
    )
