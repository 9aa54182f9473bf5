use Rattle.std.proofs.Common.{◌≡◌}
use Rattle.std.specs.List.{filter, find, take_while}
use Rattle.std.specs.Map.{values_of}
use Rattle.hall_policy.specs.World.{same_text}
use Rattle.hall_store.specs.Keyed.{agree, slot_of}
use Rattle.hall_store.specs.declared.slot.Part.TheVariants.{Puzzle}
use Rattle.hall_store.proofs.answer_reads.answer_with.Given as goal

-- which of all that agree has the token, those at the head of the rest tell
abbrev pub invariant-loop-slot : goal.invariant-loop-slot
invariant-loop-slot l =
    find (λ row. same_text row.key.token l.token) (filter (λ row. agree Puzzle (slot_of row) l.first)
    (values_of l.answers.entries))
    ≡ find (λ row. same_text row.key.token l.token) (values_of
    (take_while (λ e. agree Puzzle e.0 l.first) l.slot-iterator))
