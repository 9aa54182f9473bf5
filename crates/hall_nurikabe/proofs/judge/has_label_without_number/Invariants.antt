use Rattle.std.proofs.Common.{ℕ, ◌<◌, ◌≡◌}
use Rattle.std.specs.Prelude.{slice_index}
use Rattle.hall_grid.specs.Component.{IsLabelled}
use Rattle.hall_nurikabe.proofs.judge.has_label_without_number.Given as goal

abbrev pub invariant-loop-cell : goal.invariant-loop-cell
invariant-loop-cell l = (cell label : ℕ) → cell < l.cell → IsLabelled l.labels cell label
    → slice_index l.numbers label ≡ 0 → ⊥
