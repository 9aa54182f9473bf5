use Rattle.std.proofs.Common.{rules, tests}
use Rattle.std.specs.Ordering.{is_lt}
use Rattle.std.proofs.lemmas.Fn.{always_returns_same}
use Rattle.hall_policy.specs.Text.{text_cmp}
use Rattle.hall_policy.specs.declared.record.Person.{Person}
use Rattle.hall_policy.proofs.Orders.{text_total}
use Rattle.hall_check.proofs.Dividing.{in_order, told_in_order}
use Rattle.hall_check.proofs.whole.are_people_in_order.Goals as goal

pub returns : goal.returns
returns c = λ told.
    in_order text_total (λ (row : Person). row.name) c.args.people.now
    (told_in_order _ _ c.is_sorted_by.result told
    (c.is_sorted_by.ensures.cases (λ (a b : Person). is_lt (text_cmp a.name b.name))
    (always_returns_same _ _ _ (λ a r f' k. search (rules, tests)))))
