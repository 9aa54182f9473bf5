use Rattle.std.proofs.Common.{◌∙◌, option_copied, rules, tests}
use Rattle.std.specs.Ordering.{is_eq}
use Rattle.std.proofs.lemmas.Fn.{always_returns_same}
use Rattle.hall_policy.specs.Text.{text_cmp}
use Rattle.hall_policy.specs.declared.record.Round.{Round}
use Rattle.hall_policy.proofs.Orders.{text_total, same_texts}
use Rattle.hall_check.proofs.Dividing.{looked_up}
use Rattle.hall_check.proofs.Scans.{scan_get, tie_decides}
use Rattle.hall_check.proofs.whole.Whole.round.Goals as goal

pub returns : goal.returns
returns c =
    let whole = c.args.self.now in
    let id = c.args.id.now in
    looked_up text_total (λ (row : Round). row.id) id _ whole.rounds.items c.deref.ensures.value
    (option_copied c.find_by.result) whole.in_order
    (λ told. (whole.ordered told).2)
    (c.find_by.ensures (λ (row : Round). text_cmp row.id id)
    (always_returns_same _ _ _ (λ a r f' k. search (rules, tests))))
    ∙ scan_get text_total same_texts (λ (row : Round). row.id) (λ (row : Round). is_eq (text_cmp row.id id)) id
    (λ row. tie_decides text_total same_texts row.id id) whole.rounds.items
