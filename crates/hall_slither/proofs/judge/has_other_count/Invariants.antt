use Rattle.std.proofs.Common.{◌≡◌, ◌<◌, ℕ, Some}
use Rattle.std.specs.Prelude.{slice_get, count_by}
use Rattle.hall_grid.specs.declared.board.Clue.TheVariants.{Number}
use Rattle.hall_grid.specs.Slither.{is_line, sides_of}
use Rattle.hall_slither.specs.Close.{with_line}
use Rattle.hall_slither.proofs.judge.has_other_count.Given as goal

abbrev pub invariant-loop-cell : goal.invariant-loop-cell
invariant-loop-cell l = (cell given : ℕ) → cell < l.cell → slice_get l.puzzle.clues cell ≡ Some (Number given)
    → count_by (is_line (with_line l.lines l.more)) (sides_of l.puzzle.size cell) ≡ given
