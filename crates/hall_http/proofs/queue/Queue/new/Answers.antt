use Rattle.std.proofs.Common.{refl}
use Rattle.hall_http.proofs.Lines.{lines_none, nobody}
use Rattle.hall_http.proofs.queue.Queue.new.Goals as goal

pub invariant_of-result-clause-line : goal.invariant_of-result-clause-line
invariant_of-result-clause-line c =
    rw (c.new.ensures, c.in_ok-with_capacity.ensures.items) (refl, nobody)

pub invariant_of-result-clause-always : goal.invariant_of-result-clause-always
invariant_of-result-clause-always c = rw c.new.ensures (∣ lines_none ∣₁)
