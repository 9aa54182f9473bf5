use Rattle.std.proofs.Common.{◌≡◌, ◌++◌, map}
use Rattle.std.specs.BTreeMap as tree
use Rattle.hall_store.proofs.map_reads.heads.Given as goal

-- the heads so far, and those of the rest, are all
abbrev pub invariant-loop-row : goal.invariant-loop-row
invariant-loop-row l = map (λ row. row.round) (tree.values l.rounds) ≡ l.heads.items
    ++ map (λ row. row.round) l.row-iterator
