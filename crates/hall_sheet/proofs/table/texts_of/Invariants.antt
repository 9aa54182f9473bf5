use Rattle.std.proofs.Common.{◌≡◌, map, drop}
use Rattle.toml.specs.Data.{as_str}
use Rattle.toml.specs.View.{items_view}
use Rattle.hall_sheet.specs.Table.{each_as}
use Rattle.hall_sheet.proofs.Fields.{after}
use Rattle.hall_sheet.proofs.table.texts_of.Given as goal

abbrev pub invariant-loop-value : goal.invariant-loop-value
invariant-loop-value l =
    each_as as_str (items_view l.values)
    ≡ after (map (λ t. t.now) l.texts.items) (each_as as_str (items_view (drop l.value-index l.values)))
