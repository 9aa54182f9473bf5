use Rattle.std.proofs.Common.{rules, tests}
use Rattle.std.specs.Ordering.{is_lt}
use Rattle.std.proofs.lemmas.Fn.{always_returns_same}
use Rattle.hall_policy.specs.World.{puzzle_cmp}
use Rattle.hall_policy.specs.declared.record.PuzzleRow.{PuzzleRow}
use Rattle.hall_policy.proofs.Orders.{puzzle_total}
use Rattle.hall_check.proofs.Dividing.{in_order, told_in_order}
use Rattle.hall_check.proofs.whole.are_puzzles_in_order.Goals as goal

pub returns : goal.returns
returns c = λ told.
    in_order puzzle_total (λ (row : PuzzleRow). row.key) c.args.puzzles.now
    (told_in_order _ _ c.is_sorted_by.result told
    (c.is_sorted_by.ensures.cases (λ (a b : PuzzleRow). is_lt (puzzle_cmp a.key b.key))
    (always_returns_same _ _ _ (λ a r f' k. search (rules, tests)))))
