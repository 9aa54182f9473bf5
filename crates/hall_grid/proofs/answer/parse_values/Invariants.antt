use Rattle.std.proofs.Common.{take}
use Rattle.hall_grid.specs.Values.{SpellsValues}
use Rattle.hall_grid.proofs.answer.parse_values.Given as goal

abbrev pub invariant-loop-byte : goal.invariant-loop-byte
invariant-loop-byte l = SpellsValues l.kind l.size (take l.byte-index l.bytes) l.values.items
