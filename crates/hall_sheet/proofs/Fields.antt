-- The members of a table and the entries of its map, and what the items of an array are.
use Rattle.std.proofs.Common.{◌≡◌, ap, refl, ◌&&◌, List, [], ◌∷◌, ◌++◌}
use Rattle.std.proofs.Common.{map, Option, option_map}
use Rattle.std.specs.Prelude.{String, string_bytes}
use Rattle.std.specs.List.{list_any, list_all}
use Rattle.std.specs.Str.{bytes_eq}
use Rattle.std.specs.declared.alloc.Global.{Global}
use Rattle.toml.specs.View.{members_view}
use Rattle.toml.specs.declared.value.Value.{Value}
use Rattle.hall_sheet.specs.declared.fault.Field.{Field}
use Rattle.hall_sheet.specs.Fault.{field_name}
use Rattle.hall_sheet.specs.Table.{has_only}

pub only_listed : (fields : List Field) (entries : List (String Global × Value))
    → has_only fields (members_view entries)
    ≡ list_all (λ k. list_any (λ f. bytes_eq (field_name f) (string_bytes k)) fields) (map (λ e. e.0) entries)
only_listed fields [] = refl
only_listed fields (e ∷ es) =
    ap (λ b. list_any (λ f. bytes_eq (field_name f) (string_bytes e.0)) fields && b) (only_listed fields es)

-- the items that were read, and those that follow
abbrev pub after : {X : Type 0} → List X → Option (List X) → Option (List X)
after before more = option_map (λ rest. before ++ rest) more
