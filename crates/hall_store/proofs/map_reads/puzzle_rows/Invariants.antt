use Rattle.std.proofs.Common.{◌≡◌, ◌++◌}
use Rattle.std.specs.List.{filter, take_while}
use Rattle.std.specs.Map.{values_of}
use Rattle.hall_policy.specs.World.{same_text}
use Rattle.hall_store.proofs.map_reads.puzzle_rows.Given as goal

-- the rows so far, and the author's at the head of the rest, are all of the author's
abbrev pub invariant-loop-key : goal.invariant-loop-key
invariant-loop-key l =
    filter (λ row. same_text row.key.author l.first.author) (values_of l.puzzles.entries)
    ≡ l.rows.items ++ values_of (take_while (λ e. same_text e.0.author l.first.author) l.key-iterator)
