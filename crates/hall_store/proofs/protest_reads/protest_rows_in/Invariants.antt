use Rattle.std.proofs.Common.{◌≡◌, ◌++◌}
use Rattle.std.specs.List.{filter}
use Rattle.std.specs.BTreeMap as tree
use Rattle.hall_store.specs.Store.{is_protest_in}
use Rattle.hall_store.proofs.protest_reads.protest_rows_in.Given as goal

-- the rows so far, and those of the rest, are all of the round's
abbrev pub invariant-loop-row : goal.invariant-loop-row
invariant-loop-row l = filter (is_protest_in l.round) (tree.values l.protests) ≡ l.rows.items
    ++ filter (is_protest_in l.round) l.row-iterator
