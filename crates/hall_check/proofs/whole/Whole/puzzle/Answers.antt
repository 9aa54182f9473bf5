use Rattle.std.proofs.Common.{◌∙◌, option_copied, rules, tests}
use Rattle.std.specs.Ordering.{is_eq}
use Rattle.std.proofs.lemmas.Fn.{always_returns_same}
use Rattle.hall_policy.specs.World.{puzzle_cmp}
use Rattle.hall_policy.specs.declared.record.PuzzleRow.{PuzzleRow}
use Rattle.hall_policy.proofs.Orders.{puzzle_total, same_puzzle_keys}
use Rattle.hall_check.proofs.Dividing.{looked_up}
use Rattle.hall_check.proofs.Scans.{scan_get, tie_decides}
use Rattle.hall_check.proofs.whole.Whole.puzzle.Goals as goal

pub returns : goal.returns
returns c =
    let whole = c.args.self.now in
    let key = c.args.key.now in
    looked_up puzzle_total (λ (row : PuzzleRow). row.key) key _ whole.puzzles.items c.deref.ensures.value
    (option_copied c.find_by.result) whole.in_order
    (λ told. (whole.ordered told).1)
    (c.find_by.ensures (λ (row : PuzzleRow). puzzle_cmp row.key key)
    (always_returns_same _ _ _ (λ a r f' k. search (rules, tests))))
    ∙ scan_get puzzle_total same_puzzle_keys (λ (row : PuzzleRow). row.key)
    (λ (row : PuzzleRow). is_eq (puzzle_cmp row.key key)) key
    (λ row. tie_decides puzzle_total same_puzzle_keys row.key key) whole.puzzles.items
