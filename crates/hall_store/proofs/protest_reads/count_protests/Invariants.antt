use Rattle.std.proofs.Common.{◌≡◌, ◌<◌, ◌+◌, ◌^◌, length, count_by}
use Rattle.std.specs.List.{take_while}
use Rattle.std.specs.Map.{values_of}
use Rattle.hall_store.specs.Store.{is_protest_of}
use Rattle.hall_store.proofs.Firsts.{is_beside}
use Rattle.hall_store.proofs.protest_reads.count_protests.Given as goal

-- the count so far, and the entrant's in the round at the head of the rest, are all of the entrant's in the round; and
-- the count fits
abbrev pub invariant-loop-key : goal.invariant-loop-key
invariant-loop-key l = record {
  all : count_by (is_protest_of l.first.entrant l.first.round) (values_of l.protests.entries) ≡ l.count + length
      (take_while (λ e. is_beside l.first e.0) l.key-iterator);
  fits : l.count + length l.key-iterator < 2 ^ 63;
}
