use Rattle.std.proofs.Common.{◌∙◌, ap}
use Rattle.std.specs.Option.{option_map}
use Rattle.std.specs.Ordering.{is_eq}
use Rattle.hall_policy.specs.World.{tester_cmp}
use Rattle.hall_policy.specs.declared.record.TesterKey.{TesterKey}
use Rattle.hall_policy.proofs.Orders.{tester_total, same_tester_keys}
use Rattle.hall_check.proofs.Scans.{scan_entries, some_copied, tie_decides}
use Rattle.hall_check.proofs.whole.Whole.is_tester.Goals as goal

pub returns : goal.returns
returns c =
    let key : TesterKey = record { round = c.args.round.now; name = c.args.name.now } in
    let at = ap (option_map (λ (e : TesterKey × Unit {0}). e.1)) c.tester.ensures
    ∙ scan_entries tester_total same_tester_keys (λ (e : TesterKey × Unit {0}). is_eq (tester_cmp e.0 key)) key
    (λ e. tie_decides tester_total same_tester_keys e.0 key) c.args.self.now.testers.items in
    some_copied (λ found. found.now) (λ (e : TesterKey × Unit {0}). e.1) c.tester.result c.is_some.result _
    c.is_some.ensures at
