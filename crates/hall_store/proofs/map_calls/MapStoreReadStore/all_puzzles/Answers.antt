use Rattle.std.proofs.Common.{sym, ◌∙◌, ap, List}
use Rattle.std.specs.Map.{values_of}
use Rattle.hall_policy.specs.declared.record.PuzzleKey.{PuzzleKey}
use Rattle.hall_policy.specs.declared.record.PuzzleRow.{PuzzleRow}
use Rattle.hall_policy.proofs.Orders.{puzzle_total, same_puzzle_keys}
use Rattle.hall_store.proofs.MapWorlds.{entries_made}
use Rattle.hall_store.proofs.map_calls.MapStoreReadStore.all_puzzles.Goals as goal

pub returns-clause-served : goal.returns-clause-served
returns-clause-served c =
    let read = c.in_ok-all_puzzle_rows.ensures in
    let es : List (PuzzleKey × PuzzleRow) = c.args.self.now.puzzles.entries in
    λ _. (tt, read.rows ∙ ap values_of (sym (entries_made puzzle_total same_puzzle_keys es read.ordered)))
