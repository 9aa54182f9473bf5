-- How the fields that refusals name, and the refusals, are written.
use Rattle.std.specs.Prelude.{ℕ, List, ◌++◌, codes}
use Rattle.hall_sheet.specs.declared.fault.Field.{Field}
use Rattle.hall_sheet.specs.declared.fault.Field.TheVariants as field
use Rattle.hall_sheet.specs.declared.fault.Refusal.{Refusal}
use Rattle.hall_sheet.specs.declared.fault.Refusal.TheVariants as refusal

-- a field's name, as lists, sheets and refusals write it
abbrev pub field_name : Field → List ℕ
field_name field.List = codes "list"
field_name field.Name = codes "name"
field_name field.Key = codes "key"
field_name field.Roles = codes "roles"
field_name field.Version = codes "version"
field_name field.Title = codes "title"
field_name field.Start = codes "start"
field_name field.Zone = codes "zone"
field_name field.Minutes = codes "minutes"
field_name field.ProtestMinutes = codes "protest_minutes"
field_name field.Mode = codes "mode"
field_name field.Penalty = codes "penalty"
field_name field.Bonus = codes "bonus"
field_name field.Testers = codes "testers"
field_name field.Puzzle = codes "puzzle"
field_name field.Author = codes "author"
field_name field.Label = codes "label"
field_name field.Points = codes "points"

-- a refusal's code, and after a space the field where it has one
abbrev pub refusal_text : Refusal → List ℕ
refusal_text refusal.Syntax = codes "F1"
refusal_text (refusal.Missing f) = codes "F2 " ++ field_name f
refusal_text (refusal.Range f) = codes "F3 " ++ field_name f
refusal_text refusal.Repeated = codes "F4"
refusal_text refusal.Start = codes "F5"
refusal_text refusal.Zone = codes "F8 zone"
