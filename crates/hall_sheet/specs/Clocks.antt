-- What the clocks of a zone show, by the moments at which its daylight saving time begins and ends. Moments are whole
-- seconds from the beginning of 1970, also before it.
use Rattle.std.specs.Prelude.{◌≡◌, ◌⊎◌, ℤ, pos, ◌+ℤ◌, ◌-ℤ◌, ◌*ℤ◌, ◌<ℤ◌, ◌≤ℤ◌}
use Rattle.std.specs.Prelude.{Option, Some, None, option_map}
use Rattle.jiff_core.specs.Calendar.{IsYear, days_in_year}
use Rattle.jiff_tz.specs.declared.posix.Day.{Day}
use Rattle.jiff_tz.specs.PosixText.{DstText, TzText}
use Rattle.jiff_tz.specs.PosixRule.{first_day, rule_day}
use Rattle.hall_sheet.specs.Civil.{Civil, seconds_to}

-- the second at which a rule's day and time come in a year, as clocks show it, where the year has that day
abbrev pub second_in : ℤ → Day × ℤ → Option ℤ
second_in year rule = option_map (λ day. day *ℤ pos 86400 +ℤ rule.1) (rule_day year rule.0)

-- at the moment a clock so many seconds east of UTC shows the rule's day and time, of a year that the calendar has
abbrev pub ComesAt : Day × ℤ → ℤ → ℤ → Type 0
ComesAt rule offset moment = (year : ℤ) × IsYear year × (second_in year rule ≡ Some (moment +ℤ offset))

-- Daylight saving time is in force at the moment: it began then or before, and did not end since. It begins by clocks
-- in standard time, and ends by clocks in daylight saving time.
abbrev pub IsSaving : ℤ → DstText → ℤ → Type 0
IsSaving std dst moment =
    (begun : ℤ) × ComesAt dst.start std begun × (begun ≤ℤ moment)
    × ((ended : ℤ) → ComesAt dst.finish dst.seconds ended → begun <ℤ ended → ended ≤ℤ moment → ⊥)

-- how many seconds east of UTC clocks stand at the moment, where there may be no daylight saving time
abbrev pub StandsWith : ℤ → Option DstText → ℤ → ℤ → Type 0
StandsWith std None moment offset = offset ≡ std
StandsWith std (Some dst) moment offset =
    (IsSaving std dst moment × (offset ≡ dst.seconds)) ⊎ ((IsSaving std dst moment → ⊥) × (offset ≡ std))

-- how many seconds east of UTC the zone's clocks stand at the moment
abbrev pub StandsAt : TzText → ℤ → ℤ → Type 0
StandsAt zone moment offset = StandsWith zone.std_seconds zone.dst moment offset

-- the zone's clocks show the civil time at the moment
abbrev pub ShowsAt : TzText → Civil → ℤ → Type 0
ShowsAt zone civil moment = (offset : ℤ) × StandsAt zone moment offset × (moment ≡ seconds_to civil offset)

-- it is the first moment at which the zone's clocks show the civil time: the only one, or the first of two
pub record IsFirstShown (zone : TzText) (civil : Civil) (moment : ℤ) : Type 0 where
  pub shown : ShowsAt zone civil moment
  pub first : (other : ℤ) → ShowsAt zone civil other → moment ≤ℤ other

-- The zone's clocks never show the civil time, since they pass over it: at a change, from which on they stand anew,
-- clocks as they stood until then don't show it yet, and clocks as they stand from then on would have shown it before.
-- The moment is that by the clocks as they stood until then.
pub record IsSkipped (zone : TzText) (civil : Civil) (moment : ℤ) : Type 0 where
  pub never : (other : ℤ) → ShowsAt zone civil other → ⊥
  pub change : ℤ
  pub before : ℤ
  pub after : ℤ
  pub until_then : StandsAt zone (change -ℤ pos 1) before
  pub from_then : StandsAt zone change after
  pub later : change ≤ℤ seconds_to civil before
  pub earlier : seconds_to civil after <ℤ change
  pub told : moment ≡ seconds_to civil before

-- the second lies in the year, but isn't its first one
abbrev pub IsInYear : ℤ → ℤ → Type 0
IsInYear year second =
    ((first_day year *ℤ pos 86400) <ℤ second)
    × (second <ℤ ((first_day year +ℤ pos (days_in_year year)) *ℤ pos 86400))

-- clocks in standard time and clocks in daylight saving time show that year at the moment
abbrev pub AllShowYear : ℤ → ℤ → ℤ → ℤ → Type 0
AllShowYear std dst year moment = IsInYear year (moment +ℤ std) × IsInYear year (moment +ℤ dst)

-- between the two moments lies more time than by which the two clocks differ
abbrev pub LieApart : ℤ → ℤ → ℤ → ℤ → Type 0
LieApart std dst first second = ((first +ℤ std) <ℤ (second +ℤ dst)) × ((first +ℤ dst) <ℤ (second +ℤ std))

-- when daylight saving time begins and ends in a year: well within it, whichever clock one looks at
pub record ChangesIn (std : ℤ) (dst : DstText) (year : ℤ) : Type 0 where
  pub begun : ℤ
  pub ended : ℤ
  pub begins : second_in year dst.start ≡ Some (begun +ℤ std)
  pub ends : second_in year dst.finish ≡ Some (ended +ℤ dst.seconds)
  pub begun_in : AllShowYear std dst.seconds year begun
  pub ended_in : AllShowYear std dst.seconds year ended

-- in each year daylight saving time begins before it ends
abbrev pub BeginsFirst : ℤ → DstText → Type 0
BeginsFirst std dst =
    (year : ℤ) → IsYear year
    → (changes : ChangesIn std dst year) × LieApart std dst.seconds changes.begun changes.ended

-- in each year it ends, and later begins again
abbrev pub EndsFirst : ℤ → DstText → Type 0
EndsFirst std dst =
    (year : ℤ) → IsYear year
    → (changes : ChangesIn std dst year) × LieApart std dst.seconds changes.ended changes.begun

-- the same changes come in each year, in the same order, within the year and well apart
abbrev pub IsRegularWith : ℤ → Option DstText → Type 0
IsRegularWith std None = Unit {0}
IsRegularWith std (Some dst) = BeginsFirst std dst ⊎ EndsFirst std dst

-- the zone has no daylight saving time, or it is so in each year
abbrev pub IsRegular : TzText → Type 0
IsRegular zone = IsRegularWith zone.std_seconds zone.dst
