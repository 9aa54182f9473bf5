use Rattle.std.proofs.Common.{ℕ, ◌<◌, ◌≡◌, Some}
use Rattle.std.specs.Prelude.{slice_index, slice_get}
use Rattle.hall_grid.specs.declared.board.Clue.TheVariants.{Number}
use Rattle.hall_grid.specs.Component.{IsLabelled}
use Rattle.hall_nurikabe.proofs.judge.has_other_size.Given as goal

abbrev pub invariant-loop-cell : goal.invariant-loop-cell
invariant-loop-cell l = (cell given label : ℕ) → cell < l.cell → slice_get l.puzzle.clues cell ≡ Some (Number given)
    → IsLabelled l.labels cell label → slice_index l.sizes label ≡ given
