use Rattle.std.proofs.Common.{◌≡◌, ◌++◌, map}
use Rattle.std.specs.List.{filter, take_while}
use Rattle.hall_store.specs.Keyed.{ids_using, is_use_of, is_use_true}
use Rattle.hall_store.specs.declared.slot.UseKey.{UseKey}
use Rattle.hall_store.proofs.map_reads.ids_using.Given as goal

-- the ids so far, and those of the true uses at the head of the rest, are all
abbrev pub invariant-loop-used : goal.invariant-loop-used
invariant-loop-used l =
    ids_using l.rounds.entries l.key l.uses.entries
    ≡ l.ids.items ++ map (λ (u : UseKey × Unit {0}). u.0.round)
    (filter (is_use_true l.rounds.entries l.key) (take_while (λ u. is_use_of l.key u.0) l.used-iterator))
