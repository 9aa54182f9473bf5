use Rattle.std.proofs.Common.{◌≡◌, ℕ, ◌<◌, List, slice_index_or}
use Rattle.hall_policy.proofs.list.testers_differ.Given as goal

-- no name so far is listed again
abbrev pub invariant-loop-i : goal.invariant-loop-i
invariant-loop-i l = (i j : ℕ) (d : List ℕ) → i < j → j < l.i
    → ¬ (slice_index_or l.names i d ≡ slice_index_or l.names j d)
