use Rattle.std.proofs.Common.{ℕ, ◌<◌, List, slice_index_or}
use Rattle.hall_policy.specs.Ranges.{IsName}
use Rattle.hall_policy.proofs.ranges.read_names.Given as goal

-- those read so far
abbrev pub invariant-loop-name : goal.invariant-loop-name
invariant-loop-name l = (k : ℕ) (d : List ℕ) → k < l.name-index → IsName (slice_index_or l.names k d)
