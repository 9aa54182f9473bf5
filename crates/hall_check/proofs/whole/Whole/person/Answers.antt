use Rattle.std.proofs.Common.{◌∙◌, option_copied, rules, tests}
use Rattle.std.specs.Ordering.{is_eq}
use Rattle.std.proofs.lemmas.Fn.{always_returns_same}
use Rattle.hall_policy.specs.Text.{text_cmp}
use Rattle.hall_policy.specs.declared.record.Person.{Person}
use Rattle.hall_policy.proofs.Orders.{text_total, same_texts}
use Rattle.hall_check.proofs.Dividing.{looked_up}
use Rattle.hall_check.proofs.Scans.{scan_get, tie_decides}
use Rattle.hall_check.proofs.whole.Whole.person.Goals as goal

pub returns : goal.returns
returns c =
    let whole = c.args.self.now in
    let name = c.args.name.now in
    looked_up text_total (λ (row : Person). row.name) name _ whole.people.items c.deref.ensures.value
    (option_copied c.find_by.result) whole.in_order
    (λ told. (whole.ordered told).0)
    (c.find_by.ensures (λ (row : Person). text_cmp row.name name)
    (always_returns_same _ _ _ (λ a r f' k. search (rules, tests))))
    ∙ scan_get text_total same_texts (λ (row : Person). row.name) (λ (row : Person). is_eq (text_cmp row.name name))
    name (λ row. tie_decides text_total same_texts row.name name) whole.people.items
