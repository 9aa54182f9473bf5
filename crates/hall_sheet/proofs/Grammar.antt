-- What the grammar of a zone's text bounds.
use Rattle.std.proofs.Common.{◌≡◌, subst, arith, ℕ, ◌≤◌, ◌+◌, ◌*◌, ◌==◌, ◌&&◌, Bool, true, false, not, cond, ℤ, pos}
use Rattle.std.proofs.Common.{◌+ℤ◌, ◌-ℤ◌, List, [], ◌∷◌, length, Option, Some, None}
use Rattle.std.specs.Prelude.{nat_le, option_and_then}
use Rattle.std.proofs.lemmas.Bool.{and_parts, leb-true}
use Rattle.std.proofs.lemmas.Int.{ints}
use Rattle.std.proofs.lemmas.Option.{cond_some, same_Some, option_and_then_some}
use Rattle.jiff_core.specs.Calendar.{IsWithin}
use Rattle.jiff_tz.specs.declared.posix.Day.{Day}
use Rattle.jiff_tz.specs.declared.posix.Day.TheVariants.{WeekdayOfMonth, JulianOne, JulianZero}
use Rattle.jiff_tz.specs.PosixText.{DstText, TzText}
use Rattle.jiff_tz.specs.PosixReader.{match_some, at_most, between, begins, begins_name, tz_text, signed_by, read_byte}
use Rattle.jiff_tz.specs.PosixReader.{read_digit, read_exactly_two, read_sixty, read_after_minute, read_minutes}
use Rattle.jiff_tz.specs.PosixReader.{read_sign, read_up_to_two, read_up_to_three, read_offset, read_rule_time}
use Rattle.jiff_tz.specs.PosixReader.{read_weekday_of_month, read_julian_one, read_julian_zero, read_day, read_day_time}
use Rattle.jiff_tz.specs.PosixReader.{read_abbreviation, read_dst, read_tz, read_whole}

up_to : (limit : ℕ) (r : Option (ℕ × List ℕ)) (p : ℕ × List ℕ) → at_most limit r ≡ Some p → p.0 ≤ limit
up_to limit r p e = option_and_then_some (λ q. cond (nat_le q.0 limit) (Some q) None) r p e (λ q there more.
    let (test, same) = cond_some (nat_le q.0 limit) q p more in
    subst (λ (x : ℕ × List ℕ). x.0 ≤ limit) same (leb-true q.0 limit test))

from_to : (low high : ℕ) (r : Option (ℕ × List ℕ)) (p : ℕ × List ℕ) → between low high r ≡ Some p → p.0 ≤ high
from_to low high r p e = option_and_then_some (λ q. cond (nat_le low q.0 && nat_le q.0 high) (Some q) None) r p e
    (λ q there more.
    let (test, same) = cond_some (nat_le low q.0 && nat_le q.0 high) q p more in
    let (least, most) = and_parts (nat_le low q.0) (nat_le q.0 high) test in
    subst (λ (x : ℕ × List ℕ). x.0 ≤ high) same (leb-true q.0 high most))

sixty : (text : List ℕ) (p : ℕ × List ℕ) → read_sixty text ≡ Some p → p.0 ≤ 59
unfolding read_sixty
sixty text p e =
    option_and_then_some (λ rest. at_most 59 (read_exactly_two rest)) (read_byte 58 text) p e
    (λ rest there more. up_to 59 (read_exactly_two rest) p more)

after_minute : (m p : ℕ × List ℕ) → m.0 ≤ 59 → read_after_minute m ≡ Some p → p.0 ≤ 3599
after_minute m p few e = elim (begins 58 m.1) as (λ b.
    cond b (option_and_then (λ s. Some (m.0 * 60 + s.0, s.1)) (read_sixty m.1)) (Some (m.0 * 60, m.1)) ≡ Some p
    → p.0 ≤ 3599) [
      | true ↦ λ there. option_and_then_some (λ s. Some (m.0 * 60 + s.0, s.1)) (read_sixty m.1) p there (λ s is more.
          let small = sixty m.1 s is in
          subst (λ (q : ℕ × List ℕ). q.0 ≤ 3599) (same_Some (m.0 * 60 + s.0, s.1) p more) (omega arith))
      | false ↦ λ there. subst (λ (q : ℕ × List ℕ). q.0 ≤ 3599) (same_Some (m.0 * 60, m.1) p there) (omega arith)
    ] e

minutes : (text : List ℕ) (p : ℕ × List ℕ) → read_minutes text ≡ Some p → p.0 ≤ 3599
unfolding read_minutes
minutes text p e = elim (begins 58 text) as (λ b. cond b (option_and_then read_after_minute (read_sixty text))
    (Some (0, text)) ≡ Some p → p.0 ≤ 3599) [
      | true ↦ λ there. option_and_then_some read_after_minute (read_sixty text) p there
          (λ m is more. after_minute m p (sixty text m is) more)
      | false ↦ λ there. subst (λ (q : ℕ × List ℕ). q.0 ≤ 3599) (same_Some (0, text) p there) (omega arith)
    ] e

signed_within : (b : Bool) (n limit : ℕ) → n ≤ limit → IsWithin limit (signed_by b n)
signed_within true n limit few = (omega (arith, ints), omega (arith, ints))
signed_within false n limit few = (omega (arith, ints), omega (arith, ints))

-- hours, and what follows them
clock_within : (most : ℕ) (sign : Bool) (hours : Option (ℕ × List ℕ)) (p : ℤ × List ℕ)
    → option_and_then (λ hour. option_and_then (λ m. Some (signed_by sign (hour.0 * 3600 + m.0), m.1))
    (read_minutes hour.1)) (at_most most hours) ≡ Some p
    → IsWithin (most * 3600 + 3599) p.0
clock_within most sign hours p e =
    option_and_then_some (λ hour. option_and_then (λ m. Some (signed_by sign (hour.0 * 3600 + m.0), m.1))
    (read_minutes hour.1)) (at_most most hours) p e (λ hour is more.
    option_and_then_some (λ m. Some (signed_by sign (hour.0 * 3600 + m.0), m.1)) (read_minutes hour.1) p more
    (λ m there last.
    let few = up_to most hours hour is in
    let small = minutes hour.1 m there in
    subst (λ (q : ℤ × List ℕ). IsWithin (most * 3600 + 3599) q.0)
    (same_Some (signed_by sign (hour.0 * 3600 + m.0), m.1) p last)
    (signed_within sign (hour.0 * 3600 + m.0) (most * 3600 + 3599) (omega arith))))

offset_within : (text : List ℕ) (p : ℤ × List ℕ) → read_offset text ≡ Some p → IsWithin 89_999 p.0
unfolding read_offset
offset_within text p e = clock_within 24 (not (read_sign text).0) (read_up_to_two (read_sign text).1) p e

time_within : (text : List ℕ) (p : ℤ × List ℕ) → read_rule_time text ≡ Some p → IsWithin 604_799 p.0
unfolding read_rule_time
time_within text p e = clock_within 167 (read_sign text).0 (read_up_to_three (read_sign text).1) p e

-- the week of a day is one of the five
abbrev pub HasWeek : Day → Type 0
HasWeek (WeekdayOfMonth month week weekday) = week ≤ 5
HasWeek (JulianOne n) = Unit {0}
HasWeek (JulianZero n) = Unit {0}

weekday_has : (text : List ℕ) (p : Day × List ℕ) → read_weekday_of_month text ≡ Some p → HasWeek p.0
unfolding read_weekday_of_month
weekday_has text p e =
    option_and_then_some _ (between 1 12 (read_up_to_two text)) p e (λ month _ a.
    option_and_then_some _ (read_byte 46 month.1) p a (λ week_text _ b.
    option_and_then_some _ (between 1 5 (read_digit week_text)) p b (λ week is c.
    option_and_then_some _ (read_byte 46 week.1) p c (λ day_text _ d.
    option_and_then_some _ (at_most 6 (read_digit day_text)) p d (λ day _ last.
    subst (λ (q : Day × List ℕ). HasWeek q.0) (same_Some (WeekdayOfMonth month.0 week.0 day.0, day.1) p last)
    (from_to 1 5 (read_digit week_text) week is))))))

julian_one_has : (text : List ℕ) (p : Day × List ℕ) → read_julian_one text ≡ Some p → HasWeek p.0
unfolding read_julian_one
julian_one_has text p e =
    option_and_then_some _ (between 1 365 (read_up_to_three text)) p e (λ day _ last.
    subst (λ (q : Day × List ℕ). HasWeek q.0) (same_Some (JulianOne day.0, day.1) p last) tt)

julian_zero_has : (text : List ℕ) (p : Day × List ℕ) → read_julian_zero text ≡ Some p → HasWeek p.0
unfolding read_julian_zero
julian_zero_has text p e =
    option_and_then_some _ (at_most 365 (read_up_to_three text)) p e (λ day _ last.
    subst (λ (q : Day × List ℕ). HasWeek q.0) (same_Some (JulianZero day.0, day.1) p last) tt)

day_has : (text : List ℕ) (p : Day × List ℕ) → read_day text ≡ Some p → HasWeek p.0
unfolding read_day
day_has [] p e = julian_zero_has [] p e
day_has (b ∷ rest) p e = elim (b == 74) as (λ t. cond t (read_julian_one rest)
    (cond (b == 77) (read_weekday_of_month rest) (read_julian_zero (b ∷ rest))) ≡ Some p → HasWeek p.0) [
      | true ↦ λ there. julian_one_has rest p there
      | false ↦ λ there. elim (b == 77) as (λ t. cond t (read_weekday_of_month rest) (read_julian_zero (b ∷ rest)) ≡
          Some p
          → HasWeek p.0) [
            | true ↦ λ more. weekday_has rest p more
            | false ↦ λ more. julian_zero_has (b ∷ rest) p more
          ] there
    ] e

-- a rule's day and time
abbrev pub IsRule : Day × ℤ → Type 0
IsRule rule = HasWeek rule.0 × IsWithin 604_799 rule.1

with_time : (day : Day × List ℕ) (time : Option (List ℕ)) (p : (Day × ℤ) × List ℕ) → HasWeek day.0
    → match_some time (Some ((day.0, pos 7200), day.1)) (λ text. option_and_then (λ t. Some ((day.0, t.0), t.1))
    (read_rule_time text)) ≡ Some p → IsRule p.0
with_time day None p week e =
    subst (λ (q : (Day × ℤ) × List ℕ). IsRule q.0) (same_Some ((day.0, pos 7200), day.1) p e)
    (week, (omega (arith, ints), omega (arith, ints)))
with_time day (Some text) p week e = option_and_then_some (λ t. Some ((day.0, t.0), t.1)) (read_rule_time text) p e
    (λ t is last.
    subst (λ (q : (Day × ℤ) × List ℕ). IsRule q.0) (same_Some ((day.0, t.0), t.1) p last) (week, time_within text t is))

rule_is_read : (text : List ℕ) (p : (Day × ℤ) × List ℕ) → read_day_time text ≡ Some p → IsRule p.0
unfolding read_day_time
rule_is_read text p e = option_and_then_some _ (read_day text) p e
    (λ day is more. with_time day (read_byte 47 day.1) p (day_has text day is) more)

-- daylight saving time, beside standard time
pub record IsDst (std : ℤ) (d : DstText) : Type 0 where
  pub near : IsWithin 259_200 (d.seconds -ℤ std)
  pub start : IsRule d.start
  pub finish : IsRule d.finish

dst_offset : (std : ℤ) (b : Bool) (text : List ℕ) (p : ℤ × List ℕ) → IsWithin 89_999 std
    → cond b (Some (std +ℤ pos 3600, text)) (read_offset text) ≡ Some p → IsWithin 259_200 (p.0 -ℤ std)
dst_offset std true text p within e =
    subst (λ (q : ℤ × List ℕ). IsWithin 259_200 (q.0 -ℤ std)) (same_Some (std +ℤ pos 3600, text) p e)
    (omega (arith, ints), omega (arith, ints))
dst_offset std false text p within e =
    let there = offset_within text p e in
    let a = there.0 in
    let b = there.1 in
    let c = within.0 in
    let d = within.1 in
    (omega (arith, ints), omega (arith, ints))

dst_is_read : (std : ℤ) (text : List ℕ) (p : DstText × List ℕ) → IsWithin 89_999 std → read_dst std text ≡ Some p
    → IsDst std p.0
unfolding read_dst
dst_is_read std text p within e =
    option_and_then_some _ (read_abbreviation text) p e (λ name _ a.
    option_and_then_some _ (cond (begins 44 name.1) (Some (std +ℤ pos 3600, name.1)) (read_offset name.1)) p a
    (λ offset at b.
    option_and_then_some _ (read_byte 44 offset.1) p b (λ start_text _ c.
    option_and_then_some _ (read_day_time start_text) p c (λ start begins_at d.
    option_and_then_some _ (read_byte 44 start.1) p d (λ finish_text _ f.
    option_and_then_some _ (read_day_time finish_text) p f (λ finish ends_at last.
    let made : DstText = record { name = name.0; seconds = offset.0; start = start.0; finish = finish.0 } in
    subst (λ (q : DstText × List ℕ). IsDst std q.0) (same_Some (made, finish.1) p last) (record {
      near = dst_offset std (begins 44 name.1) name.1 offset within at;
      start = rule_is_read start_text start begins_at;
      finish = rule_is_read finish_text finish ends_at;
    })))))))

-- a whole zone
abbrev pub IsZoneWith : ℤ → Option DstText → Type 0
IsZoneWith std None = Unit {0}
IsZoneWith std (Some d) = IsDst std d

abbrev IsZone : TzText → Type 0
IsZone zone = IsZoneWith zone.std_seconds zone.dst

after_offset : (name : List ℕ) (offset : ℤ × List ℕ) (b : Bool) (p : TzText × List ℕ) → IsWithin 89_999 offset.0
    → cond b (option_and_then (λ dst. Some (tz_text name offset.0 (Some dst.0), dst.1)) (read_dst offset.0 offset.1))
    (Some (tz_text name offset.0 None, offset.1)) ≡ Some p
    → IsZone p.0
after_offset name offset true p within e =
    option_and_then_some (λ dst. Some (tz_text name offset.0 (Some dst.0), dst.1)) (read_dst offset.0 offset.1) p e
    (λ dst is last.
    subst (λ (q : TzText × List ℕ). IsZone q.0) (same_Some (tz_text name offset.0 (Some dst.0), dst.1) p last)
    (dst_is_read offset.0 offset.1 dst within is))
after_offset name offset false p within e = subst (λ (q : TzText × List ℕ). IsZone q.0)
    (same_Some (tz_text name offset.0 None, offset.1) p e) tt

tz_is_read : (text : List ℕ) (p : TzText × List ℕ) → read_tz text ≡ Some p → IsZone p.0
unfolding read_tz
tz_is_read text p e =
    option_and_then_some _ (read_abbreviation text) p e (λ name _ a.
    option_and_then_some _ (read_offset name.1) p a (λ offset at b.
    after_offset name.0 offset (begins_name offset.1) p (offset_within name.1 offset at) b))

pub zone_is_read : (text : List ℕ) (zone : TzText) → read_whole text ≡ Some zone → IsZoneWith zone.std_seconds zone.dst
unfolding read_whole
zone_is_read text zone e =
    option_and_then_some (λ p. cond (length p.1 == 0) (Some p.0) None) (read_tz text) zone e (λ p is more.
    let (test, same) = cond_some (length p.1 == 0) p.0 zone more in
    subst IsZone same (tz_is_read text p is))
