use Rattle.std.proofs.Common.{◌≡◌, ◌≢◌, ℕ, ◌<◌, slice_get, Some, None}
use Rattle.hall_policy.specs.declared.record.ProtestRow.{ProtestRow}
use Rattle.hall_sql.proofs.protests.is_any_open.Given as goal

-- none of the protests so far is open
abbrev pub invariant-loop-row : goal.invariant-loop-row
invariant-loop-row l = (i : ℕ) (row : ProtestRow) → i < l.row-index → slice_get l.rows i ≡ Some row → row.ruling ≢ None
