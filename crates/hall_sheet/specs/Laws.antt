-- Laws of the definitions.
use Rattle.std.specs.Prelude.{◌≡◌, ◌⊎◌, ◌≤◌, ◌+◌, ℕ, ℤ, pos, List, Option, Some, None, Ok}
use Rattle.std.specs.Int.{IsInRange}
use Rattle.jiff_tz.specs.declared.posix.Day.{Day}
use Rattle.jiff_tz.specs.declared.posix.Day.TheVariants.{WeekdayOfMonth}
use Rattle.jiff_tz.specs.PosixText.{DstText, TzText}
use Rattle.jiff_tz.specs.PosixReader.{read_whole}
use Rattle.hall_sheet.specs.Civil.{Civil}
use Rattle.hall_sheet.specs.Clocks.{IsRegular, IsFirstShown, IsSkipped}
use Rattle.hall_sheet.specs.Start.{civil_in}
use Rattle.hall_sheet.specs.Zone.{moment_in}

-- The moment of a civil time in a zone is the first at which the zone's clocks show it. Where they pass over it, it is
-- told by the clocks as they stood before.
abbrev pub ClocksShowStarts : Type 0
ClocksShowStarts =
    (text start : List ℕ) (zone : TzText) (civil : Civil) (moment : ℕ)
    → read_whole text ≡ Some zone → IsRegular zone → civil_in start ≡ Some civil → moment_in text civil ≡ Ok moment
    → IsFirstShown zone civil (pos moment) ⊎ IsSkipped zone civil (pos moment)

-- the rule's day is a weekday of the month: its first to its fourth, or its last
abbrev pub ComesInMonth : ℕ → Day × ℤ → Type 0
ComesInMonth month rule = (week : ℕ) × (weekday : ℕ) × (rule.0 ≡ WeekdayOfMonth month week weekday)

-- daylight saving time begins and ends on weekdays of two months, neither of them January or December, with a month or
-- more between them
pub record IsSeason (dst : DstText) : Type 0 where
  pub begins : ℕ
  pub ends : ℕ
  pub start : ComesInMonth begins dst.start
  pub finish : ComesInMonth ends dst.finish
  pub begins_within : IsInRange 2 11 begins
  pub ends_within : IsInRange 2 11 ends
  pub apart : (begins + 2 ≤ ends) ⊎ (ends + 2 ≤ begins)

-- there is no daylight saving time, or it is such a season
abbrev pub IsSeasonal : Option DstText → Type 0
IsSeasonal None = Unit {0}
IsSeasonal (Some dst) = IsSeason dst

-- a zone without daylight saving time, or with such a season, is regular
abbrev pub SeasonsAreRegular : Type 0
SeasonsAreRegular =
    (text : List ℕ) (zone : TzText) → read_whole text ≡ Some zone → IsSeasonal zone.dst → IsRegular zone
