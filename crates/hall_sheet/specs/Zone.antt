-- The moment at which the clocks of a zone show a civil time. What the zone's text says, the calendar's crate reads.
use Rattle.std.specs.Prelude.{ℕ, ◌*◌, ℤ, pos, ◌+ℤ◌, ◌-ℤ◌, ◌*ℤ◌, int_lt, not, ◌&&◌, if◌then◌else◌}
use Rattle.std.specs.Prelude.{List, Option, Some, None, Result}
use Rattle.jiff_core.specs.Timestamp.{nanos_of_seconds}
use Rattle.jiff_tz.specs.declared.posix.Day.{Day}
use Rattle.jiff_tz.specs.PosixText.{DstText, TzText}
use Rattle.jiff_tz.specs.PosixReader.{read_whole}
use Rattle.jiff_tz.specs.PosixRule.{match_some, clamp_to, nanos_per_day, first_nanosecond, last_nanosecond}
use Rattle.jiff_tz.specs.PosixRule.{rule_day, in_window, in_span, saturating_add, saturating_sub}
use Rattle.hall_policy.specs.Reading.{◌>>=◌, or_fault}
use Rattle.hall_sheet.specs.declared.fault.Refusal.{Refusal}
use Rattle.hall_sheet.specs.declared.fault.Refusal.TheVariants as refusal
use Rattle.hall_sheet.specs.Civil.{Civil, moment_at}

-- when a rule's day and time come in the year, as clocks show it: in nanoseconds, as the calendar's crate counts them
abbrev pub comes_at : ℤ → Day × ℤ → ℤ
comes_at year rule = match_some (rule_day year rule.0) (last_nanosecond year) (λ day.
    clamp_to (first_nanosecond year) (last_nanosecond year) (day *ℤ nanos_per_day +ℤ nanos_of_seconds rule.1))

-- how far the one clock is ahead of the other
abbrev pub ahead : ℤ → ℤ → ℤ
ahead std dst = nanos_of_seconds dst -ℤ nanos_of_seconds std

-- where daylight saving time is ahead: it holds from the end of the hour that is left out to the end of the hour that
-- comes twice
abbrev pub offset_ahead : ℤ → ℤ → ℤ × ℤ → ℤ → ℤ
offset_ahead std dst window at =
    if in_window window at && not (in_span window.0 (saturating_add window.0 (ahead std dst)) at) then dst else std

-- where it is behind: from the end of the hour that comes twice to the end of the hour that is left out
abbrev pub offset_behind : ℤ → ℤ → ℤ × ℤ → ℤ → ℤ
offset_behind std dst window at =
    if in_window window at then dst
    else (if in_span (saturating_add window.0 (ahead std dst)) window.0 at then std
    else (if in_span window.1 (saturating_sub window.1 (ahead std dst)) at then dst else std))

-- the offset of what clocks show, by their offsets in standard time and in daylight saving time, and when that begins
-- and ends
abbrev pub offset_by : ℤ → ℤ → ℤ × ℤ → ℤ → ℤ
offset_by std dst window at =
    if int_lt dst std then offset_behind std dst window at
    else (if int_lt std dst then offset_ahead std dst window at else std)

-- the same, where a zone may have no daylight saving time
abbrev pub offset_with : ℤ → Option DstText → ℤ → ℤ → ℤ
offset_with std None year at = std
offset_with std (Some d) year at = offset_by std d.seconds (comes_at year d.start, comes_at year d.finish) at

-- what clocks show, in nanoseconds
abbrev pub shown : Civil → ℤ
shown civil = civil.day *ℤ nanos_per_day +ℤ pos (civil.clock * 1_000_000_000)

-- how many seconds east of UTC the zone's clocks stand when they show the civil time: where they never do, as before
-- the change, and where they do so twice, as at the first time
abbrev pub offset_of : TzText → Civil → ℤ
offset_of zone civil = offset_with zone.std_seconds zone.dst civil.year (shown civil)

-- the moment of a civil time in the zone that a text names
abbrev pub moment_in : List ℕ → Civil → Result ℕ Refusal
moment_in text civil = or_fault refusal.Zone (read_whole text) >>= (λ zone. moment_at civil (offset_of zone civil))
