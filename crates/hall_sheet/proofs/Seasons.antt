-- Zones whose changes come on weekdays of two months are regular.
use Rattle.std.proofs.Common.{◌≡◌, ◌∙◌, sym, ap, subst, refl, arith, ℕ, inl, inr, ◌<◌, ◌≤◌, ◌+◌, ◌-◌, ◌==◌, true, false}
use Rattle.std.proofs.Common.{cond, ℤ, pos, ◌+ℤ◌, ◌-ℤ◌, ◌*ℤ◌, ◌<ℤ◌, ◌≤ℤ◌, Option, Some, None}
use Rattle.std.proofs.lemmas.Bool.Decides.{nat_tests}
use Rattle.std.proofs.lemmas.Int.{ints}
use Rattle.jiff_core.specs.Calendar.{days_in_year, days_in_month, days_of_months, days_from_civil}
use Rattle.jiff_core.proofs.CalendarLemmas.{day_count-day_of_year, days_from_civil-day_count, days_in_month_bounds}
use Rattle.jiff_core.proofs.CalendarLemmas.{days_of_months-zero, days_of_months_more, days_of_months_all}
use Rattle.jiff_core.proofs.CalendarLemmas.{days_of_months_mono}
use Rattle.jiff_core.proofs.DateLemmas.{days_from_civil-day}
use Rattle.jiff_tz.specs.declared.posix.Day.{Day}
use Rattle.jiff_tz.specs.declared.posix.Day.TheVariants.{WeekdayOfMonth}
use Rattle.jiff_tz.specs.PosixText.{DstText}
use Rattle.jiff_tz.specs.PosixRule.{first_day, rule_day, weekday_of_month, last_weekday, nth_weekday}
use Rattle.hall_sheet.specs.Clocks.{second_in, ChangesIn, BeginsFirst, EndsFirst, IsRegularWith}
use Rattle.hall_sheet.specs.Laws.{ComesInMonth, IsSeasonal, SeasonsAreRegular}
use Rattle.hall_sheet.proofs.Grammar.{HasWeek, IsRule, IsDst, IsZoneWith, zone_is_read}

rule_is : (y : ℤ) (m w k : ℕ) → rule_day y (WeekdayOfMonth m w k) ≡ Some (weekday_of_month y m w k)
unfolding rule_day
rule_is y m w k = refl

-- a weekday of a month is a day of the month
last_in : (y : ℤ) (m k : ℕ) → (days_from_civil y m 1 ≤ℤ last_weekday y m k)
    × (last_weekday y m k <ℤ (days_from_civil y m 1 +ℤ pos (days_in_month y m)))
last_in y m k =
    let (most, least) = days_in_month_bounds y m in
    let last = days_from_civil-day y m (days_in_month y m) 1 (omega arith) (omega arith) in
    (omega (arith, ints), omega (arith, ints))

nth_in : (y : ℤ) (m w k : ℕ) → w < 5 → (days_from_civil y m 1 ≤ℤ nth_weekday y m w k)
    × (nth_weekday y m w k <ℤ (days_from_civil y m 1 +ℤ pos (days_in_month y m)))
nth_in y m w k few =
    let (most, least) = days_in_month_bounds y m in
    (omega (arith, ints), omega (arith, ints))

weekday_in : (y : ℤ) (m w k : ℕ) → w ≤ 5 → (days_from_civil y m 1 ≤ℤ weekday_of_month y m w k)
    × (weekday_of_month y m w k <ℤ (days_from_civil y m 1 +ℤ pos (days_in_month y m)))
weekday_in y m w k few = elim (w == 5) as (λ t. (w == 5) ≡ t
    → let day : ℤ = cond t (last_weekday y m k) (nth_weekday y m w k) in
    (days_from_civil y m 1 ≤ℤ day) × (day <ℤ (days_from_civil y m 1 +ℤ pos (days_in_month y m)))) [
      | true ↦ λ e. last_in y m k
      | false ↦ λ e. nth_in y m w k (grind (arith, nat_tests))
    ] refl

-- the second at which a rule's day and time come lies within a week of its month
record ComesWithin (y : ℤ) (m : ℕ) (rule : Day × ℤ) : Type 0 where
  second : ℤ
  comes : second_in y rule ≡ Some second
  low : ((first_day y +ℤ pos (days_of_months y (m - 1))) *ℤ pos 86400) ≤ℤ (second +ℤ pos 604_800)
  high : second <ℤ ((first_day y +ℤ pos (days_of_months y m)) *ℤ pos 86400 +ℤ pos 604_800)

comes_within : (y : ℤ) (m : ℕ) (rule : Day × ℤ) → 1 ≤ m → ComesInMonth m rule → IsRule rule → ComesWithin y m rule
comes_within y m rule first (week, weekday, there) is_rule =
    let day = weekday_of_month y m week weekday in
    let few : week ≤ 5 = subst HasWeek there is_rule.0 in
    let (least, most) = weekday_in y m week weekday few in
    let place = day_count-day_of_year y m 1 (omega arith) in
    let more = days_of_months_more y m first in
    let count = days_from_civil-day_count y m 1 in
    let start = days_from_civil-day_count y 1 1 in
    let low = is_rule.1.0 in
    let high = is_rule.1.1 in
    record {
      second = day *ℤ pos 86400 +ℤ rule.1;
      comes = rw (there, rule_is y m week weekday) refl;
      low = omega (arith, ints);
      high = omega (arith, ints);
    }

-- the months before a month that isn't the first, and those from one on that isn't the last
months_before : (y : ℤ) (m : ℕ) → 2 ≤ m → 28 ≤ days_of_months y (m - 1)
months_before y m h =
    let none = days_of_months-zero y in
    let one = days_of_months_more y 1 (omega arith) in
    let (most, least) = days_in_month_bounds y 1 in
    let rise = days_of_months_mono y 1 (m - 1) (omega arith) in
    omega (arith, none, one)

months_after : (y : ℤ) (m : ℕ) → m ≤ 11 → days_of_months y m + 28 ≤ days_in_year y
months_after y m h =
    let all = days_of_months_all y in
    let last = days_of_months_more y 12 (omega arith) in
    let (most, least) = days_in_month_bounds y 12 in
    let rise = days_of_months_mono y m 11 h in
    omega (arith, all, last)

months_between : (y : ℤ) (m n : ℕ) → m + 2 ≤ n → days_of_months y m + 28 ≤ days_of_months y (n - 1)
months_between y m n h =
    let next = days_of_months_more y (m + 1) (omega arith) in
    let (most, least) = days_in_month_bounds y (m + 1) in
    let rise = days_of_months_mono y (m + 1) (n - 1) (omega arith) in
    let back : m + 1 - 1 ≡ m = omega arith in
    omega (arith, rw back at next)

module _ (std : ℤ) (d : DstText) (m n : ℕ) (start : ComesInMonth m d.start) (finish : ComesInMonth n d.finish)
    (second : 2 ≤ m) (late : m ≤ 11) (second' : 2 ≤ n) (late' : n ≤ 11)
    (read : IsDst std d) where
  starts : (y : ℤ) → ComesWithin y m d.start
  starts y = comes_within y m d.start (omega arith) start read.start

  finishes : (y : ℤ) → ComesWithin y n d.finish
  finishes y = comes_within y n d.finish (omega arith) finish read.finish

  changes : (y : ℤ) → (c : ChangesIn std d y)
      × (c.begun ≡ (starts y).second -ℤ std)
      × (c.ended ≡ (finishes y).second -ℤ d.seconds)
  changes y =
      let s = starts y in
      let f = finishes y in
      let a = s.low in
      let b = s.high in
      let e = f.low in
      let g = f.high in
      let low = read.near.0 in
      let high = read.near.1 in
      let before = months_before y m second in
      let after = months_after y m late in
      let before' = months_before y n second' in
      let after' = months_after y n late' in
      let begins : s.second -ℤ std +ℤ std ≡ s.second = omega (arith, ints) in
      let ends : f.second -ℤ d.seconds +ℤ d.seconds ≡ f.second = omega (arith, ints) in (
        record {
          begun = s.second -ℤ std;
          ended = f.second -ℤ d.seconds;
          begins = s.comes ∙ ap Some (sym begins);
          ends = f.comes ∙ ap Some (sym ends);
          begun_in = ((omega (arith, ints), omega (arith, ints)), (omega (arith, ints), omega (arith, ints)));
          ended_in = ((omega (arith, ints), omega (arith, ints)), (omega (arith, ints), omega (arith, ints)));
        },
        refl,
        refl,
      )

  begins_first : m + 2 ≤ n → BeginsFirst std d
  begins_first apart y is =
      let s = starts y in
      let f = finishes y in
      let b = s.high in
      let e = f.low in
      let between = months_between y m n apart in
      let low = read.near.0 in
      let high = read.near.1 in
      let (c, begun, ended) = changes y in
      (c, (omega (arith, ints), omega (arith, ints)))

  ends_first : n + 2 ≤ m → EndsFirst std d
  ends_first apart y is =
      let s = starts y in
      let f = finishes y in
      let a = s.low in
      let g = f.high in
      let between = months_between y n m apart in
      let low = read.near.0 in
      let high = read.near.1 in
      let (c, begun, ended) = changes y in
      (c, (omega (arith, ints), omega (arith, ints)))

regular_with : (std : ℤ) (dst : Option DstText) → IsZoneWith std dst → IsSeasonal dst → IsRegularWith std dst
regular_with std None read seasonal = tt
regular_with std (Some d) read s = elim s.apart [
  | inl apart ↦ inl (begins_first std d s.begins s.ends s.start s.finish s.begins_within.0 s.begins_within.1
      s.ends_within.0 s.ends_within.1 read apart)
  | inr apart ↦ inr (ends_first std d s.begins s.ends s.start s.finish s.begins_within.0 s.begins_within.1
      s.ends_within.0 s.ends_within.1 read apart)
]

pub seasons_are_regular : SeasonsAreRegular
seasons_are_regular text zone names seasonal = regular_with zone.std_seconds zone.dst (zone_is_read text zone names)
    seasonal
