use Rattle.std.proofs.Common.{◌≡◌, ◌<◌, ◌+◌, ◌^◌, length, count_by}
use Rattle.std.specs.List.{take_while}
use Rattle.std.specs.Map.{values_of}
use Rattle.hall_policy.specs.World.{same_text}
use Rattle.hall_store.proofs.map_reads.count_puzzles.Given as goal

-- the count so far, and the author's at the head of the rest, are all of the author's; and the count fits
abbrev pub invariant-loop-key : goal.invariant-loop-key
invariant-loop-key l = record {
  all : count_by (λ row. same_text row.key.author l.first.author) (values_of l.puzzles.entries) ≡ l.count + length
      (take_while (λ e. same_text e.0.author l.first.author) l.key-iterator);
  fits : l.count + length l.key-iterator < 2 ^ 63;
}
