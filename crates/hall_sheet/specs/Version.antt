-- The version of a round sheet: which fields it has.
use Rattle.std.specs.Prelude.{ℕ, ◌==◌, if◌then◌else◌, List, [], ◌∷◌, unwrap_or, Result, Ok}
use Rattle.std.specs.Result.{result_ok}
use Rattle.toml.specs.Data.{Members}
use Rattle.hall_policy.specs.Reading.{◌>>=◌}
use Rattle.hall_sheet.specs.declared.fault.Field.{Field}
use Rattle.hall_sheet.specs.declared.fault.Field.TheVariants as field
use Rattle.hall_sheet.specs.declared.fault.Refusal.{Refusal}
use Rattle.hall_sheet.specs.declared.version.Version.{Version}
use Rattle.hall_sheet.specs.declared.version.Version.TheVariants.{First, Second, Third}
use Rattle.hall_sheet.specs.Table.{number_field}

-- the version of this number
abbrev pub version_of : ℕ → Version
version_of number = if number == 1 then First else if number == 2 then Second else Third

-- the version that a sheet is of: 1, 2 or 3
abbrev pub version_in : Members → Result Version Refusal
version_in ms = number_field field.Version 1 3 ms >>= (λ number. Ok (version_of number))

-- the same, and the first version where the sheet says none
abbrev pub version_or_first : Members → Version
version_or_first ms = unwrap_or (result_ok (version_in ms)) First

-- the fields of a sheet; from the second version on the start is a civil time in a zone, and the third names testers
abbrev pub sheet_fields : Version → List Field
sheet_fields First =
    field.Version ∷ field.Title ∷ field.Start ∷ field.Minutes ∷ field.ProtestMinutes ∷ field.Mode ∷ field.Penalty
    ∷ field.Bonus ∷ field.Puzzle ∷ []
sheet_fields Second =
    field.Version ∷ field.Title ∷ field.Start ∷ field.Zone ∷ field.Minutes ∷ field.ProtestMinutes ∷ field.Mode
    ∷ field.Penalty ∷ field.Bonus ∷ field.Puzzle ∷ []
sheet_fields Third =
    field.Version ∷ field.Title ∷ field.Start ∷ field.Zone ∷ field.Minutes ∷ field.ProtestMinutes ∷ field.Mode
    ∷ field.Penalty ∷ field.Bonus ∷ field.Testers ∷ field.Puzzle ∷ []
