use Rattle.std.proofs.Common.{◌≡◌, ℕ, ◌<◌, slice_index_or}
use Rattle.hall_policy.specs.declared.record.Entry.{Entry}
use Rattle.hall_policy.proofs.list.puzzles_differ.Given as goal

-- no puzzle so far is listed again
abbrev pub invariant-loop-i : goal.invariant-loop-i
invariant-loop-i l = (i j : ℕ) (d : Entry) → i < j → j < l.i
    → ¬ ((slice_index_or l.entries i d).puzzle ≡ (slice_index_or l.entries j d).puzzle)
