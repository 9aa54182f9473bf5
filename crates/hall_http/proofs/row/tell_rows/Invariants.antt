use Rattle.std.proofs.Common.{◌≡◌, ◌++◌, map, drop}
use Rattle.json.specs.Tree.{items_tokens}
use Rattle.serde_json.specs.View.{items_of}
use Rattle.serde_json.specs.Written.{items_outline}
use Rattle.hall_http.proofs.row.tell_rows.Given as goal

-- with the rows that are left it is the whole
abbrev pub invariant-loop-row : goal.invariant-loop-row
invariant-loop-row g l =
    l.told ++ items_tokens (items_outline (items_of (map g.R.Row.data_of (drop l.row-index l.rows))))
    ≡ l.initial.told ++ items_tokens (items_outline (items_of (map g.R.Row.data_of l.rows)))
