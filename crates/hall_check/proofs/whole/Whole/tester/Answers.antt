use Rattle.std.proofs.Common.{option_copied, rules, tests}
use Rattle.std.proofs.lemmas.Fn.{always_returns_same}
use Rattle.hall_policy.specs.World.{tester_cmp}
use Rattle.hall_policy.specs.declared.record.TesterKey.{TesterKey}
use Rattle.hall_policy.proofs.Orders.{tester_total}
use Rattle.hall_check.proofs.Dividing.{looked_up}
use Rattle.hall_check.proofs.whole.Whole.tester.Goals as goal

pub returns : goal.returns
returns c =
    let whole = c.args.self.now in
    let key : TesterKey = record { round = c.args.round.now; name = c.args.name.now } in
    looked_up tester_total (λ (row : TesterKey × Unit {0}). row.0) key _ whole.testers.items c.deref.ensures.value
    (option_copied c.find_by.result) whole.in_order
    (λ told. (whole.ordered told).4)
    (c.find_by.ensures (λ (row : TesterKey × Unit {0}). tester_cmp row.0 key)
    (always_returns_same _ _ _ (λ a r f' k. search (rules, tests))))
