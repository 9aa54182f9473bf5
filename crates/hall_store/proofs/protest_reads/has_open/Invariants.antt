use Rattle.std.proofs.Common.{◌↔◌}
use Rattle.std.specs.BTreeMap as tree
use Rattle.hall_store.specs.Keyed.{HasOpen}
use Rattle.hall_store.proofs.protest_reads.has_open.Given as goal

-- whether one of all is open, the rest tells
abbrev pub invariant-loop-row : goal.invariant-loop-row
invariant-loop-row l = HasOpen l.round (tree.values l.protests) ↔ HasOpen l.round l.row-iterator
