use Rattle.std.proofs.Common.{rules, tests}
use Rattle.std.specs.Ordering.{is_lt}
use Rattle.std.proofs.lemmas.Fn.{always_returns_same}
use Rattle.hall_policy.specs.World.{tester_cmp}
use Rattle.hall_policy.specs.declared.record.TesterKey.{TesterKey}
use Rattle.hall_policy.proofs.Orders.{tester_total}
use Rattle.hall_check.proofs.Dividing.{in_order, told_in_order}
use Rattle.hall_check.proofs.whole.are_testers_in_order.Goals as goal

pub returns : goal.returns
returns c = λ told.
    in_order tester_total (λ (row : TesterKey × Unit {0}). row.0) c.args.testers.now
    (told_in_order _ _ c.is_sorted_by.result told
    (c.is_sorted_by.ensures.cases (λ (a b : TesterKey × Unit {0}). is_lt (tester_cmp a.0 b.0))
    (always_returns_same _ _ _ (λ a r f' k. search (rules, tests)))))
