use Rattle.std.proofs.Common.{◌≡◌, length, get_or}
use Rattle.hall_sudoku.specs.Parts.{AreGathered}
use Rattle.hall_sudoku.proofs.parts.Parts.gathered.Given as goal

abbrev pub invariant-loop-cell : goal.invariant-loop-cell
invariant-loop-cell g l = record {
  size : length l.parts ≡ g.row.CELLS;
  gathered : AreGathered l.self.units.now (λ c. get_or l.self.first.now c 0) (λ c. get_or l.self.second.now c 0) l.cell
      l.candidates l.parts;
}
