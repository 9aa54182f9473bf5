-- The moment that the text of a start names: a civil time and how far east of UTC its clock stands.
use Rattle.std.specs.Prelude.{ℕ, ◌+◌, ◌*◌, ◌==◌, nat_le, ℤ, pos, neg_ℤ, Bool, ◌&&◌}
use Rattle.std.specs.Prelude.{if◌then◌else◌, List, length, take, drop, slice_range, codes, Option, Some, None}
use Rattle.std.specs.Prelude.{option_map, Result}
use Rattle.std.specs.List.{list_all, zip}
use Rattle.std.specs.Char.{is_ascii_digit}
use Rattle.std.specs.Str.{bytes_eq}
use Rattle.std.specs.Str.Parse.{digits_value}
use Rattle.jiff_core.specs.Calendar.{days_from_civil, days_in_month}
use Rattle.hall_policy.specs.Reading.{◌>>=◌, or_fault}
use Rattle.hall_sheet.specs.declared.fault.Refusal.{Refusal}
use Rattle.hall_sheet.specs.declared.fault.Refusal.TheVariants as refusal
use Rattle.hall_sheet.specs.Civil.{Civil, moment_at}

-- a byte at a mark of a form: the mark 0 stands for any digit, another mark for itself
abbrev pub fits_mark : ℕ → ℕ → Bool
fits_mark mark byte = if mark == 48 then is_ascii_digit byte else byte == mark

-- the text has a byte for each mark of the form, which fits it
abbrev pub has_form : List ℕ → List ℕ → Bool
has_form form text = (length text == length form) && list_all (λ p. fits_mark p.0 p.1) (zip form text)

-- the number that the digits from one place up to another write
abbrev pub number_at : List ℕ → ℕ → ℕ → ℕ
number_at text from to = digits_value 10 (slice_range text from to)

-- the day number of a date, where the calendar has it in the years 0 to 9999
abbrev pub day_in : ℕ → ℕ → ℕ → Option ℤ
day_in year month day =
    if nat_le year 9999 && (nat_le 1 month && nat_le month 12)
    && (nat_le 1 day && nat_le day (days_in_month (pos year) month))
    then Some (days_from_civil (pos year) month day) else None

-- the seconds of hours, minutes and seconds, where a clock shows them: up to 23:59:59
abbrev pub clock_in : ℕ → ℕ → ℕ → Option ℕ
clock_in hours minutes seconds =
    if nat_le hours 23 && nat_le minutes 59 && nat_le seconds 59
    then Some (3600 * hours + 60 * minutes + seconds) else None

-- the civil time of a year, a day and a second of the day, where there are both
abbrev pub civil_of : ℕ → Option ℤ → Option ℕ → Option Civil
civil_of year (Some day) (Some clock) = Some (record { year = pos year; day = day; clock = clock })
civil_of year (Some day) None = None
civil_of year None _ = None

-- the civil time, where the text is one that exists
abbrev pub civil_in : List ℕ → Option Civil
civil_in text =
    if has_form (codes "0000-00-00T00:00:00") text
    then civil_of (number_at text 0 4) (day_in (number_at text 0 4) (number_at text 5 7) (number_at text 8 10))
    (clock_in (number_at text 11 13) (number_at text 14 16) (number_at text 17 19))
    else None

-- the seconds of the hours and minutes that follow a sign
abbrev pub distance_in : List ℕ → Option ℕ
distance_in text = clock_in (number_at text 1 3) (number_at text 4 6) 0

-- how many seconds east of UTC a clock stands, where the text says so: Z, or a sign, hours and minutes
abbrev pub offset_in : List ℕ → Option ℤ
offset_in text =
    if bytes_eq text (codes "Z") then Some (pos 0)
    else if has_form (codes "+00:00") text then option_map (λ n. pos n) (distance_in text)
    else if has_form (codes "-00:00") text then option_map (λ n. neg_ℤ (pos n)) (distance_in text)
    else None

-- the moment at which a clock of that offset shows the civil time
abbrev pub start_in : List ℕ → Result ℕ Refusal
start_in text = do
  civil ← or_fault refusal.Start (civil_in (take 19 text))
  offset ← or_fault refusal.Start (offset_in (drop 19 text))
  moment_at civil offset
