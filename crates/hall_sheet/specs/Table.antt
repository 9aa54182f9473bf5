-- The fields of a table of TOML: each in its type and its range, or the first thing that is wrong with it.
use Rattle.std.specs.Prelude.{ℕ, nat_le, ℤ, pos, negsuc, Bool, true, ◌&&◌, List, [], ◌∷◌}
use Rattle.std.specs.Prelude.{Option, Some, option_and_then, option_map, Result, Ok, Err}
use Rattle.std.specs.List.{list_any}
use Rattle.std.specs.Str.{bytes_eq}
use Rattle.toml.specs.Data.{Data, Items, no_items, item, Members, no_members, member, get_member}
use Rattle.toml.specs.Data.{as_integer, as_str, as_array, as_table}
use Rattle.hall_policy.specs.Reading.{◌>>=◌, or_fault, unless, of_kind}
use Rattle.hall_sheet.specs.declared.fault.Field.{Field}
use Rattle.hall_sheet.specs.declared.fault.Refusal.{Refusal}
use Rattle.hall_sheet.specs.declared.fault.Refusal.TheVariants as refusal
use Rattle.hall_sheet.specs.Fault.{field_name}

-- each key of the table is the name of one of these fields
abbrev pub has_only : List Field → Members → Bool
has_only fields no_members = true
has_only fields (member key d ms) = list_any (λ f. bytes_eq (field_name f) key) fields && has_only fields ms

-- what stands at a field, if anything does
abbrev pub value_at : Field → Members → Option Data
value_at f ms = get_member (field_name f) ms

-- the text that a field is
abbrev pub text_at : Field → Members → Result (List ℕ) Refusal
text_at f ms = or_fault (refusal.Missing f) (option_and_then as_str (value_at f ms))

-- the integer that a field is
abbrev pub integer_at : Field → Members → Result ℤ Refusal
integer_at f ms = or_fault (refusal.Missing f) (option_and_then as_integer (value_at f ms))

-- the integer where it lies from the least to the most, else the field's refusal
abbrev pub in_range : Field → ℕ → ℕ → ℤ → Result ℕ Refusal
in_range f least most (pos n) = unless (refusal.Range f) (nat_le least n && nat_le n most) >>= (λ _. Ok n)
in_range f least most (negsuc n) = Err (refusal.Range f)

-- a field that is an integer in a range
abbrev pub number_field : Field → ℕ → ℕ → Members → Result ℕ Refusal
number_field f least most ms = integer_at f ms >>= in_range f least most

-- a field that is a text of a kind
abbrev pub text_field : Field → ℕ → ℕ → (ℕ → Bool) → Members → Result (List ℕ) Refusal
text_field f least most allows ms = text_at f ms >>= of_kind (refusal.Range f) least most allows

-- the items of the array that a field is
abbrev pub items_at : Field → Members → Result Items Refusal
items_at f ms = or_fault (refusal.Missing f) (option_and_then as_array (value_at f ms))

-- the items as what each of them is, where all of them are of one type
abbrev pub each_as : {X : Type 0} → (Data → Option X) → Items → Option (List X)
each_as seen no_items = Some []
each_as seen (item d ds) = option_and_then (λ x. option_map (λ more. x ∷ more) (each_as seen ds)) (seen d)

-- a field that is an array of tables
abbrev pub tables_field : Field → Members → Result (List Members) Refusal
tables_field f ms = items_at f ms >>= (λ items. or_fault (refusal.Missing f) (each_as as_table items))

-- a field that is an array of texts
abbrev pub texts_field : Field → Members → Result (List (List ℕ)) Refusal
texts_field f ms = items_at f ms >>= (λ items. or_fault (refusal.Missing f) (each_as as_str items))
