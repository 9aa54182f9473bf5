use Rattle.std.proofs.Common.{◌≡◌, ◌<◌, ℕ, false, slice_index_or}
use Rattle.std.specs.Fn.{ComputesKey}
use Rattle.std.specs.Ordering.{is_eq}
use Rattle.std.specs.declared.cmp.Ordering.{Ordering}
use Rattle.hall_check.proofs.halves.find_first.Given as goal

-- none ties so far
abbrev pub invariant-loop-row : goal.invariant-loop-row
invariant-loop-row g l = (order : g.row.T.Denot → Ordering) → ComputesKey g.F.Fn order l.compare
    → (j : ℕ) (d : g.row.T.Denot) → j < l.row-index → is_eq (order (slice_index_or l.rows j d)) ≡ false
