use Rattle.std.proofs.Common.{◌≡◌, ◌++◌}
use Rattle.std.specs.List.{filter, take_while}
use Rattle.std.specs.Map.{values_of}
use Rattle.hall_store.specs.Keyed.{agree, slot_of}
use Rattle.hall_store.proofs.answer_reads.answer_rows.Given as goal

-- the rows so far, and those that agree at the head of the rest, are all that agree
abbrev pub invariant-loop-slot : goal.invariant-loop-slot
invariant-loop-slot l =
    filter (λ row. agree l.part (slot_of row) l.first) (values_of l.answers.entries)
    ≡ l.rows.items ++ values_of (take_while (λ e. agree l.part e.0 l.first) l.slot-iterator)
