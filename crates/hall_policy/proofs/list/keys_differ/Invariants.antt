use Rattle.hall_policy.specs.declared.record.Person.{Person}
use Rattle.hall_policy.proofs.Lists.{AreSeen}
use Rattle.hall_policy.proofs.list.keys_differ.Given as goal

-- the keys so far are seen, and differ
abbrev pub invariant-loop-person : goal.invariant-loop-person
invariant-loop-person l = AreSeen (λ (person : Person). person.key) l.people l.person-index l.seen
