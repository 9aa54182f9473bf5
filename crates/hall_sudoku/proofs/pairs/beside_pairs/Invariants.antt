use Rattle.std.proofs.Common.{◌≡◌, length, get_or}
use Rattle.hall_sudoku.specs.Pairs.{AreBesidePairs}
use Rattle.hall_sudoku.proofs.pairs.beside_pairs.Given as goal

abbrev pub invariant-loop-cell : goal.invariant-loop-cell
invariant-loop-cell g l = record {
  size : length l.out ≡ g.row.CELLS;
  beside : AreBesidePairs (λ c. get_or l.units c 0) (length l.units) l.candidates l.out;
}
