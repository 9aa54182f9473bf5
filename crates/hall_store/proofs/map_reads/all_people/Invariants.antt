use Rattle.std.proofs.Common.{◌≡◌, ◌++◌}
use Rattle.std.specs.BTreeMap as tree
use Rattle.hall_store.proofs.map_reads.all_people.Given as goal

-- the people so far, and the rest, are all
abbrev pub invariant-loop-person : goal.invariant-loop-person
invariant-loop-person l = tree.values l.people ≡ l.all.items ++ l.person-iterator
