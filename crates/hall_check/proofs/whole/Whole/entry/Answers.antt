use Rattle.std.proofs.Common.{◌∙◌, option_copied, sym, ap}
use Rattle.std.specs.Option.{option_map}
use Rattle.std.specs.Ordering.{is_eq}
use Rattle.hall_policy.specs.World.{place_cmp}
use Rattle.hall_policy.specs.declared.record.Entry.{Entry}
use Rattle.hall_policy.specs.declared.record.PlaceKey.{PlaceKey}
use Rattle.hall_policy.proofs.Orders.{place_total, same_place_keys}
use Rattle.hall_check.proofs.Scans.{scan_entries, tie_decides}
use Rattle.hall_check.proofs.whole.Whole.entry.Goals as goal

pub returns-in-Some : goal.returns-in-Some
returns-in-Some c =
    let key : PlaceKey = record { round = c.args.round.now; number = c.args.number } in
    ap (λ found. option_map (λ (e : PlaceKey × Entry). e.1) (option_copied found)) (sym c.in-Some.is)
    ∙ ap (option_map (λ (e : PlaceKey × Entry). e.1)) c.place.ensures
    ∙ scan_entries place_total same_place_keys (λ (e : PlaceKey × Entry). is_eq (place_cmp e.0 key)) key
    (λ e. tie_decides place_total same_place_keys e.0 key) c.args.self.now.places.items

pub returns-in-None : goal.returns-in-None
returns-in-None c =
    let key : PlaceKey = record { round = c.args.round.now; number = c.args.number } in
    ap (λ found. option_map (λ (e : PlaceKey × Entry). e.1) (option_copied found)) (sym c.in-None.is)
    ∙ ap (option_map (λ (e : PlaceKey × Entry). e.1)) c.place.ensures
    ∙ scan_entries place_total same_place_keys (λ (e : PlaceKey × Entry). is_eq (place_cmp e.0 key)) key
    (λ e. tie_decides place_total same_place_keys e.0 key) c.args.self.now.places.items
