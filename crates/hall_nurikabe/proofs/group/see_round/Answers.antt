use Rattle.std.proofs.Common.{◌≡◌, ◌<◌, Some, take, sym, subst, arith}
use Rattle.std.specs.Prelude.{Contains}
use Rattle.std.proofs.lemmas.List.{take_all}
use Rattle.hall_grid.specs.declared.board.Size.{Size}
use Rattle.hall_grid.specs.Board.{cells, Touch}
use Rattle.hall_grid.proofs.Labelling.{place_in}
use Rattle.hall_nurikabe.proofs.IsFound.{Sees-empty_place, Sees-place}
use Rattle.hall_nurikabe.proofs.group.see_round.Goals as goal
use Rattle.hall_nurikabe.proofs.group.see_round.Goals.{in-Some+in_ok-see, in_default}

pub see-requires-clause-cell : goal.see-requires-clause-cell
see-requires-clause-cell c =
    let low : c.in-Some.other < cells c.size.result =
    ((c.neighbours-place-items.ensures.touching c.in-Some.other).0
    (place_in c.neighbours-place-items.result c.loop-place.place-index _ _ (omega arith) c.in-Some.is)).0 in
    subst (λ (s : Size). c.in-Some.other < cells s) c.size.ensures.size low

pub neighbours-place-items-requires-clause-board : goal.neighbours-place-items-requires-clause-board
neighbours-place-items-requires-clause-board c =
    subst (λ (s : Size). c.args.cell < cells s) (sym c.size.ensures.size)
    (c.requires.found.below c.args.cell c.requires.cell)

pub see-requires-clause-near : goal.see-requires-clause-near
see-requires-clause-near c =
    let touch : Touch c.size.result c.args.cell c.in-Some.other =
    ((c.neighbours-place-items.ensures.touching c.in-Some.other).0
    (place_in c.neighbours-place-items.result c.loop-place.place-index _ _ (omega arith) c.in-Some.is)).1 in (
      c.args.cell,
      c.loop-place.invariant.adds.listed c.args.cell c.requires.cell,
      subst (λ (s : Size). Touch s c.args.cell c.in-Some.other) c.size.ensures.size touch,
    )

pub loop-place-preserved : goal.loop-place-preserved
loop-place-preserved c = elim c.match-place.branch [
  | in-Some+in_ok-see w ↦
      rw w.group-is
      (Sees-place c.args.position.now.puzzle.now.size c.args.position.now.partial.now.places c.args.value
      c.neighbours-place-items.result c.loop-place.place-index _ (omega arith) _ _ _ _ _ c.loop-place.invariant
      w.in-Some.other _ _ _ w.in-Some.is w.in_ok-see.ensures)
  | in_default w ↦
      rw w.group-is
      (Sees-empty_place c.args.position.now.puzzle.now.size c.args.position.now.partial.now.places c.args.value
      c.neighbours-place-items.result c.loop-place.place-index _ (omega arith) _ _ _ _ _ c.loop-place.invariant
      w.in_default.not-Some)
]

pub returns : goal.returns
returns c =
    let size = c.args.position.now.puzzle.now.size in
    let all : take c.loop-place.place-index c.neighbours-place-items.result ≡ c.neighbours-place-items.result =
    take_all _ _ (omega arith) in
    record {
      found = c.loop-place.invariant.found;
      adds = c.loop-place.invariant.adds;
      seen = λ x low t. c.loop-place.invariant.seen x low
          (subst (λ l. Contains l (Some x)) (sym all)
          ((c.neighbours-place-items.ensures.touching x).1 (subst (λ (s : Size). (x < cells s) × Touch s c.args.cell x)
          (sym c.size.ensures.size) (low, t))));
    }
