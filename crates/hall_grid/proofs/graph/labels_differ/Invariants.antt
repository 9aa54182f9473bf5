use Rattle.std.proofs.Common.{ℕ, ◌<◌, ◌≡◌, Some}
use Rattle.hall_grid.specs.Component.{IsLabelled}
use Rattle.hall_grid.proofs.graph.labels_differ.Given as goal

abbrev pub invariant-loop-place : goal.invariant-loop-place
invariant-loop-place l = record {
  known : (label : ℕ) → l.known ≡ Some label → (node : ℕ) × IsLabelled l.labels node label;
  same : (node label : ℕ) → node < l.place-index → IsLabelled l.labels node label → l.known ≡ Some label;
}
