use Rattle.std.proofs.Common.{◌≡◌, ◌++◌}
use Rattle.std.specs.List.{filter, take_while}
use Rattle.std.specs.Map.{values_of}
use Rattle.hall_store.specs.Store.{is_protest_of}
use Rattle.hall_store.proofs.Firsts.{is_beside}
use Rattle.hall_store.proofs.protest_reads.protest_rows.Given as goal

-- the rows so far, and the entrant's in the round at the head of the rest, are all of the entrant's in the round
abbrev pub invariant-loop-key : goal.invariant-loop-key
invariant-loop-key l =
    filter (is_protest_of l.first.entrant l.first.round) (values_of l.protests.entries)
    ≡ l.rows.items ++ values_of (take_while (λ e. is_beside l.first e.0) l.key-iterator)
