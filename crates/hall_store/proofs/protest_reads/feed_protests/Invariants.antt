use Rattle.std.specs.BTreeMap as tree
use Rattle.std.specs.List.{filter}
use Rattle.hall_store.specs.Store.{is_protest_in}
use Rattle.hall_store.proofs.Feeds.{Feeding}
use Rattle.hall_store.proofs.protest_reads.feed_protests.Given as goal

-- the sink took the round's protests so far
abbrev pub invariant-loop-row : goal.invariant-loop-row
invariant-loop-row g l = Feeding g.K.Sink.takes l.fn.sink (filter (is_protest_in l.fn.round)
    (tree.values l.fn.protests)) (filter (is_protest_in l.fn.round) l.row-iterator) l.sink
