use Rattle.std.proofs.Common.{◌≡◌, map, drop}
use Rattle.toml.specs.Data.{as_table}
use Rattle.toml.specs.View.{items_view, table_view}
use Rattle.hall_sheet.specs.Table.{each_as}
use Rattle.hall_sheet.proofs.Fields.{after}
use Rattle.hall_sheet.proofs.table.tables_of.Given as goal

abbrev pub invariant-loop-value : goal.invariant-loop-value
invariant-loop-value l =
    each_as as_table (items_view l.values)
    ≡ after (map (λ t. table_view t.now) l.tables.items) (each_as as_table (items_view (drop l.value-index l.values)))
