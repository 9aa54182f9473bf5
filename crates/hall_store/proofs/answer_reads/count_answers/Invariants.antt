use Rattle.std.proofs.Common.{◌≡◌, ◌<◌, ◌+◌, ◌^◌, length, count_by}
use Rattle.std.specs.List.{take_while}
use Rattle.std.specs.Map.{values_of}
use Rattle.hall_store.specs.Keyed.{agree, slot_of}
use Rattle.hall_store.specs.declared.slot.Part.TheVariants.{Puzzle}
use Rattle.hall_store.proofs.answer_reads.count_answers.Given as goal

-- the count so far, and those that agree at the head of the rest, are all that agree; and the count fits
abbrev pub invariant-loop-slot : goal.invariant-loop-slot
invariant-loop-slot l = record {
  all : count_by (λ row. agree Puzzle (slot_of row) l.first) (values_of l.answers.entries) ≡ l.count + length
      (take_while (λ e. agree Puzzle e.0 l.first) l.slot-iterator);
  fits : l.count + length l.slot-iterator < 2 ^ 63;
}
