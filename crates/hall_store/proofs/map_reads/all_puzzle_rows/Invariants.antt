use Rattle.std.proofs.Common.{◌≡◌, ◌++◌}
use Rattle.std.specs.BTreeMap as tree
use Rattle.hall_store.proofs.map_reads.all_puzzle_rows.Given as goal

-- the rows so far, and the rest, are all
abbrev pub invariant-loop-row : goal.invariant-loop-row
invariant-loop-row l = tree.values l.puzzles ≡ l.all.items ++ l.row-iterator
