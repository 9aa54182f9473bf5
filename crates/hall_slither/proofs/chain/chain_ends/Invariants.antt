use Rattle.hall_slither.specs.Chain.{HaveEnds}
use Rattle.hall_slither.proofs.chain.chain_ends.Given as goal

abbrev pub invariant-loop-dot : goal.invariant-loop-dot
invariant-loop-dot l = HaveEnds l.size l.lines l.labels l.dot l.ends.items
