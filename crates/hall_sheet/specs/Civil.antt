-- A civil time, and the moment at which a clock shows it.
use Rattle.std.specs.Prelude.{ℕ, ℤ, pos, ◌+ℤ◌, ◌-ℤ◌, ◌*ℤ◌, Result}
use Rattle.jiff_core.specs.Date.{epoch_day}
use Rattle.jiff_core.specs.Time.{time_seconds}
use Rattle.jiff_core.specs.declared.civil.datetime.DateTime.{DateTime}
use Rattle.hall_policy.specs.Limits.{last_second}
use Rattle.hall_sheet.specs.declared.fault.Field.TheVariants as field
use Rattle.hall_sheet.specs.declared.fault.Refusal.{Refusal}
use Rattle.hall_sheet.specs.Table.{in_range}

-- a civil time: the year, the day number counted from 1970-01-01, and the second of the day
pub record Civil : Type 0 where
  pub year : ℤ
  pub day : ℤ
  pub clock : ℕ

-- the seconds from the beginning of 1970 until a clock so many seconds east of UTC shows the civil time
abbrev pub seconds_to : Civil → ℤ → ℤ
seconds_to civil offset = civil.day *ℤ pos 86400 +ℤ pos civil.clock -ℤ offset

-- the moment, 0 to 4,102,444,800, at which a clock so many seconds east of UTC shows the civil time
abbrev pub moment_at : Civil → ℤ → Result ℕ Refusal
moment_at civil offset = in_range field.Start 0 last_second (seconds_to civil offset)

-- the civil time that a value of the calendar's crate is, but for fractions of a second
abbrev pub civil_seen : DateTime → Civil
civil_seen dt = record { year = dt.date.year; day = epoch_day dt.date; clock = time_seconds dt.time }
