use Rattle.std.proofs.Common.{◌≡◌, ◌<◌, None, get_or, sym, ◌∙◌, subst, arith}
use Rattle.std.proofs.lemmas.List.Elements.{Contains-get_or}
use Rattle.hall_grid.specs.declared.board.Size.{Size}
use Rattle.hall_grid.specs.Board.{cells, Touch}
use Rattle.hall_grid.proofs.Labelling.{if_none, place_in}
use Rattle.hall_nurikabe.proofs.round.open_beside.Goals as goal

pub neighbours-place-items-requires-clause-board : goal.neighbours-place-items-requires-clause-board
neighbours-place-items-requires-clause-board c =
    let list = c.args.members.now in
    let cell = get_or list c.loop-member.member-index 0 in
    subst (λ (s : Size). cell < cells s) (sym c.size.ensures.size)
    (c.requires cell (Contains-get_or list c.loop-member.member-index 0 (omega arith)))

pub get-requires : goal.get-requires
get-requires c =
    let low : c.in-Some.other < cells c.size.result =
    ((c.neighbours-place-items.ensures.touching c.in-Some.other).0
    (place_in c.neighbours-place-items.result c.loop-place.place-index _ _ (omega arith) c.in-Some.is)).0 in
    let here = subst (λ (s : Size). c.in-Some.other < cells s) c.size.ensures.size low in
    omega (arith, here, c.args.position.now.fits.size)

pub returns-then-is_none : goal.returns-then-is_none
returns-then-is_none c =
    let list = c.args.members.now in
    let cell = get_or list c.loop-member.member-index 0 in
    let beside = (c.neighbours-place-items.ensures.touching c.in-Some.other).0
    (place_in c.neighbours-place-items.result c.loop-place.place-index _ _ (omega arith) c.in-Some.is) in
    let low = subst (λ (s : Size). c.in-Some.other < cells s) c.size.ensures.size beside.0 in
    let touch = subst (λ (s : Size). Touch s cell c.in-Some.other) c.size.ensures.size beside.1 in
    let none : get_or c.args.position.now.partial.now.places c.in-Some.other None ≡ None =
    sym c.get.ensures ∙ if_none c.get.result c.is_none.result c.is_none.ensures c.if-is_none.true in (
      (omega (arith, low, c.args.position.now.fits.size), none),
      (cell, Contains-get_or list c.loop-member.member-index 0 (omega arith), touch),
    )
