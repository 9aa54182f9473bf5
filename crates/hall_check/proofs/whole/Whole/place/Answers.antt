use Rattle.std.proofs.Common.{option_copied, rules, tests}
use Rattle.std.proofs.lemmas.Fn.{always_returns_same}
use Rattle.hall_policy.specs.World.{place_cmp}
use Rattle.hall_policy.specs.declared.record.Entry.{Entry}
use Rattle.hall_policy.specs.declared.record.PlaceKey.{PlaceKey}
use Rattle.hall_policy.proofs.Orders.{place_total}
use Rattle.hall_check.proofs.Dividing.{looked_up}
use Rattle.hall_check.proofs.whole.Whole.place.Goals as goal

pub returns : goal.returns
returns c =
    let whole = c.args.self.now in
    let key : PlaceKey = record { round = c.args.round.now; number = c.args.number } in
    looked_up place_total (λ (row : PlaceKey × Entry). row.0) key _ whole.places.items c.deref.ensures.value
    (option_copied c.find_by.result) whole.in_order
    (λ told. (whole.ordered told).3)
    (c.find_by.ensures (λ (row : PlaceKey × Entry). place_cmp row.0 key)
    (always_returns_same _ _ _ (λ a r f' k. search (rules, tests))))
