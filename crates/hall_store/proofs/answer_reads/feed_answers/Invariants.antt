use Rattle.std.specs.List.{filter, take_while}
use Rattle.std.specs.Map.{values_of}
use Rattle.hall_store.specs.Keyed.{is_inside}
use Rattle.hall_store.specs.Store.{is_after, is_between}
use Rattle.hall_store.proofs.Feeds.{Feeding}
use Rattle.hall_store.proofs.answer_reads.feed_answers.Given as goal

-- the sink took the rows so far, and those after the name that are inside at the head of the rest are left
abbrev pub invariant-loop-slot : goal.invariant-loop-slot
invariant-loop-slot g l =
    Feeding g.K.Sink.takes l.fn.sink (filter (is_between l.fn.first.round l.fn.after l.fn.last)
    (values_of l.fn.answers.entries))
    (values_of (filter (λ e. is_after l.fn.after e.0.entrant)
    (take_while (λ e. is_inside l.fn.first.round l.fn.last e.0) l.slot-iterator))) l.sink
