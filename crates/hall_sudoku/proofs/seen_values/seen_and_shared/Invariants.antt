use Rattle.std.proofs.Common.{◌≡◌, length, get_or}
use Rattle.hall_sudoku.specs.Candidates.{AreSeen, AreShared}
use Rattle.hall_sudoku.proofs.seen_values.seen_and_shared.Given as goal

abbrev pub invariant-loop-cell : goal.invariant-loop-cell
invariant-loop-cell l = record {
  seen_size : length l.seen ≡ 25;
  shared_size : length l.shared ≡ 25;
  are_seen : AreSeen (λ c. get_or l.units c 0) l.cell l.candidates l.seen;
  are_shared : AreShared (λ c. get_or l.units c 0) l.cell l.candidates l.shared;
}
