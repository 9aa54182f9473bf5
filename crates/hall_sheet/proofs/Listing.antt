-- The listed keys of a sheet.
use Rattle.std.proofs.Common.{◌≡◌, ◌∙◌, ap, refl, Bool, true, ◌&&◌, List, [], ◌∷◌, map, Ok}
use Rattle.std.specs.List.{list_all}
use Rattle.toml.specs.Data.{Members}
use Rattle.hall_sheet.specs.declared.fault.Field.TheVariants as field
use Rattle.hall_sheet.specs.Table.{has_only, tables_field}
use Rattle.hall_sheet.specs.Version.{version_or_first, sheet_fields}
use Rattle.hall_sheet.specs.Sheet.{entry_fields, are_listed}

all_seen : {X Y : Type 0} (seen : X → Y) (test : Y → Bool) (xs : List X)
    → list_all (λ x. test (seen x)) xs ≡ list_all test (map seen xs)
all_seen seen test [] = refl
all_seen seen test (x ∷ xs) = ap (λ b. test (seen x) && b) (all_seen seen test xs)

-- the tables of `puzzle` were looked through
pub listed_by : {X : Type 0} (seen : X → Members) (ms : Members) (tables : List X) (b : Bool)
    → has_only (sheet_fields (version_or_first ms)) ms ≡ true → tables_field field.Puzzle ms ≡ Ok (map seen tables)
    → b ≡ list_all (λ t. has_only entry_fields (seen t)) tables → b ≡ are_listed ms
listed_by seen ms tables b top found all =
    rw (top, found) (all ∙ all_seen seen (has_only entry_fields) tables)
