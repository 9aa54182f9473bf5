use Rattle.std.proofs.Common.{◌<◌, ℕ, length, get_or, take, ◌∙◌, arith}
use Rattle.std.proofs.lemmas.List.{length-set, length-replicate}
use Rattle.hall_sudoku.proofs.Tables.{none_in}
use Rattle.hall_sudoku.proofs.Beside.{beside_set, first_below}
use Rattle.hall_sudoku.proofs.pairs.beside_pairs.Goals as goal

pub loop-cell-preserved : goal.loop-cell-preserved
loop-cell-preserved g c =
    let table = c.cells_with_two-found.result.0 in
    let count = c.cells_with_two-found.result.1 in
    let at : ℕ = get_or (take c.cells_with_two-found.result.1 c.cells_with_two-found.result.0) c.loop-cell.cell-index
    0 in
    let in_units = first_below table count (length c.args.units.now) c.cells_with_two-found.ensures.cells
    (omega (arith, c.cells_with_two-found.ensures.count, c.cells_with_two-found.ensures.size))
    c.loop-cell.cell-index c.loop-cell-test.true in
    let small : get_or (take c.cells_with_two-found.result.1 c.cells_with_two-found.result.0) c.loop-cell.cell-index 0 <
    length c.loop-cell.out = omega (arith, in_units, c.loop-cell.invariant.size, c.requires.fits) in
    record {
      size = length-set _ _ _ ∙ c.loop-cell.invariant.size;
      beside = beside_set (λ k. get_or c.args.units.now k 0) (length c.args.units.now) c.args.candidates.now
          c.loop-cell.out at c.beside_pair.result c.loop-cell.invariant.beside small c.beside_pair.ensures;
    }

pub loop-cell-init : goal.loop-cell-init
loop-cell-init g c = record {
  size = length-replicate _ _;
  beside = λ cell v lt h. absurd (none_in g.row.CELLS c.none-out.result c.none-out.ensures cell v h);
}

pub beside_pair-requires-clause-found : goal.beside_pair-requires-clause-found
beside_pair-requires-clause-found g c =
    first_below c.cells_with_two-found.result.0 c.cells_with_two-found.result.1 (length c.args.units.now)
    c.cells_with_two-found.ensures.cells (omega (
      arith,
      c.cells_with_two-found.ensures.count,
      c.cells_with_two-found.ensures.size,
    ))

pub beside_pair-requires-clause-cell : goal.beside_pair-requires-clause-cell
beside_pair-requires-clause-cell g c =
    first_below c.cells_with_two-found.result.0 c.cells_with_two-found.result.1 (length c.args.units.now)
    c.cells_with_two-found.ensures.cells (omega (
      arith,
      c.cells_with_two-found.ensures.count,
      c.cells_with_two-found.ensures.size,
    )) c.loop-cell.cell-index c.loop-cell-test.true
