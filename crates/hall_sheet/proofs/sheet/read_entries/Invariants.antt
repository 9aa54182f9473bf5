use Rattle.std.proofs.Common.{◌≡◌, []}
use Rattle.toml.specs.View.{table_view}
use Rattle.hall_sheet.proofs.Entries.{rest_in}
use Rattle.hall_sheet.proofs.sheet.read_entries.Given as goal

abbrev pub invariant-loop-table : goal.invariant-loop-table
invariant-loop-table l =
    rest_in (λ t. table_view t.now) [] l.tables 0
    ≡ rest_in (λ t. table_view t.now) l.entries.items l.tables l.table-index
