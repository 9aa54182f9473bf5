use Rattle.std.proofs.Common.{◌≡◌, length, get_or}
use Rattle.hall_sudoku.proofs.Tables.{TakenBelow, TakesBelow, ApartBelow}
use Rattle.hall_sudoku.proofs.candidates.taken_in.Given as goal

abbrev pub invariant-loop-cell : goal.invariant-loop-cell
invariant-loop-cell l = record {
  size : length l.taken ≡ 25;
  below : TakenBelow (λ c. get_or l.units c 0) l.partial.places l.cell l.taken;
  takes : TakesBelow (λ c. get_or l.units c 0) l.partial.places l.cell l.taken;
  apart : ApartBelow (λ c. get_or l.units c 0) l.partial.places l.cell;
}
