use Rattle.hall_http.proofs.Fair.{owes_none}
use Rattle.hall_http.proofs.Waited.{come_none, said_none}
use Rattle.hall_http.proofs.event_loop.EventLoop.new.Goals as goal

pub invariant_of-result-clause-owes : goal.invariant_of-result-clause-owes
invariant_of-result-clause-owes g c = rw c.new-3.ensures (∣ owes_none _ _ ∣₁)

pub invariant_of-result-clause-said : goal.invariant_of-result-clause-said
invariant_of-result-clause-said g c = rw c.new-3.ensures (∣ said_none _ _ ∣₁)

pub invariant_of-result-clause-come : goal.invariant_of-result-clause-come
invariant_of-result-clause-come g c = rw c.new-3.ensures (come_none _)
