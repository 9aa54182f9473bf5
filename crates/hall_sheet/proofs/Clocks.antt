-- The moment of a civil time in a zone is the first at which the zone's clocks show it.
use Rattle.std.proofs.Common.{◌≡◌, ◌∙◌, sym, ap, subst, refl, arith, ℕ, ◌⊎◌, inl, inr, ◌<◌, ◌≤◌, ◌+◌, ◌*◌, ℤ, pos}
use Rattle.std.proofs.Common.{negsuc, ◌+ℤ◌, ◌-ℤ◌, ◌*ℤ◌, ◌<ℤ◌, ◌≤ℤ◌, List, Option, Some, None, Ok, ◌&&◌, true, false}
use Rattle.std.proofs.Common.{cond}
use Rattle.std.specs.Prelude.{codes, nat_le}
use Rattle.std.proofs.lemmas.Bool.{and_parts, leb-true}
use Rattle.std.proofs.lemmas.Int.{ints, by_lt_z}
use Rattle.std.proofs.lemmas.Option.{cond_some, none-some, same_Some}
use Rattle.jiff_core.specs.Calendar.{IsYear, IsCivilDate, days_in_year, days_in_month, day_of_year, days_from_civil}
use Rattle.jiff_core.proofs.CalendarLemmas.{day_of_year_bound, day_count-day_of_year, days_from_civil-day_count}
use Rattle.jiff_tz.specs.PosixText.{DstText, TzText}
use Rattle.jiff_tz.specs.PosixRule.{first_day}
use Rattle.jiff_tz.proofs.YearLemmas.{year_end_bound, year_start_bound}
use Rattle.hall_policy.specs.Reading.{◌>>=◌, unless}
use Rattle.hall_sheet.specs.declared.fault.Field.{Field}
use Rattle.hall_sheet.specs.declared.fault.Field.TheVariants as field
use Rattle.hall_sheet.specs.declared.fault.Refusal.TheVariants as refusal
use Rattle.hall_sheet.specs.Civil.{Civil, seconds_to, moment_at}
use Rattle.hall_sheet.specs.Start.{has_form, number_at, day_in, clock_in, civil_of, civil_in}
use Rattle.hall_sheet.specs.Table.{in_range}
use Rattle.hall_sheet.specs.Laws.{ClocksShowStarts}
use Rattle.hall_sheet.specs.Clocks.{IsSaving, IsInYear, StandsAt, ShowsAt, IsFirstShown, IsSkipped, LieApart}
use Rattle.hall_sheet.specs.Clocks.{AllShowYear, BeginsFirst, EndsFirst, IsRegularWith}
use Rattle.hall_sheet.specs.Zone.{offset_of, shown}
use Rattle.hall_sheet.proofs.Changes.{Reads, ReadsIn, reads_change, saving_between, not_saving_beside}
use Rattle.hall_sheet.proofs.Changes.{not_saving_between, saving_after, saving_before}
use Rattle.hall_sheet.proofs.Dates.{passed}
use Rattle.hall_sheet.proofs.Picked.{IsPicked, IsCivilSecond, comes, picked_first, picked_last}

-- The zone's clocks stand by the inner offset between the two moments, and by the outer one beside them, as far as a
-- moment reads in the year.
record Swings (zone : TzText) (reads : ℤ → Type 0) (inner outer first second : ℤ) : Type 0 where
  inside : (m : ℤ) → reads m → first ≤ℤ m → m <ℤ second → StandsAt zone m inner
  outside : (m : ℤ) → reads m → (m <ℤ first) ⊎ (second ≤ℤ m) → StandsAt zone m outer
  only_inside : (m o : ℤ) → reads m → first ≤ℤ m → m <ℤ second → StandsAt zone m o → o ≡ inner
  only_outside : (m o : ℤ) → reads m → (m <ℤ first) ⊎ (second ≤ℤ m) → StandsAt zone m o → o ≡ outer
  either : (m o : ℤ) → StandsAt zone m o → (o ≡ inner) ⊎ (o ≡ outer)
  reads_first : reads first
  reads_before_first : reads (first -ℤ pos 1)
  reads_second : reads second
  reads_before_second : reads (second -ℤ pos 1)
  apart : LieApart inner outer first second

abbrev pub IsTold : TzText → Civil → ℤ → Type 0
IsTold zone civil moment = IsFirstShown zone civil moment ⊎ IsSkipped zone civil moment

module _ (zone : TzText) (civil : Civil) (reads : ℤ → Type 0) (inner outer first second : ℤ)
    (s : Swings zone reads inner outer first second) (by_inner : reads (seconds_to civil inner))
    (by_outer : reads (seconds_to civil outer)) where
  abbrev at : ℤ
  at = civil.day *ℤ pos 86400 +ℤ pos civil.clock

  -- a moment that shows the civil time does so by the offset that holds there
  showing : (m : ℤ) → ShowsAt zone civil m
      → ((m ≡ seconds_to civil inner) × (first ≤ℤ m) × (m <ℤ second))
      ⊎ ((m ≡ seconds_to civil outer) × ((m <ℤ first) ⊎ (second ≤ℤ m)))
  showing m (o, stands, told) =
      let there : reads m = elim (s.either m o stands) [
        | inl is ↦ subst reads (sym (told ∙ ap (seconds_to civil) is)) by_inner
        | inr is ↦ subst reads (sym (told ∙ ap (seconds_to civil) is)) by_outer
      ] in
      by_lt_z m first
      (λ early. inr (told ∙ ap (seconds_to civil) (s.only_outside m o there (inl early) stands), inl early))
      (λ late. by_lt_z m second
      (λ before. inl (told ∙ ap (seconds_to civil) (s.only_inside m o there late before stands), late, before))
      (λ after. inr (told ∙ ap (seconds_to civil) (s.only_outside m o there (inr after) stands), inr after)))

  inner_told : (first +ℤ outer) ≤ℤ at → (first +ℤ inner) ≤ℤ at → (at <ℤ (second +ℤ inner)) ⊎ (at <ℤ (second +ℤ outer))
      → IsTold zone civil (seconds_to civil inner)
  inner_told late past before =
      let one = s.apart.0 in
      let two = s.apart.1 in
      by_lt_z at (second +ℤ inner)
      (λ within. inl (record {
        shown = (inner, s.inside (seconds_to civil inner) by_inner (omega (arith, ints)) (omega (arith, ints)), refl);
        first = λ m shows. elim (showing m shows) [
          | inl (same, _, _) ↦ let is = same in omega (arith, ints)
          | inr (same, out) ↦ elim out [
            | inl early ↦ let is = same in absurd (omega (arith, ints))
            | inr after ↦ let is = same in omega (arith, ints)
          ]
        ];
      }))
      (λ over.
      let still : at <ℤ (second +ℤ outer) = elim before [
        | inl b ↦ absurd (omega (arith, ints))
        | inr b ↦ b
      ] in
      inr (record {
        never = λ m shows. elim (showing m shows) [
          | inl (same, _, b) ↦ let is = same in let there = b in omega (arith, ints)
          | inr (same, out) ↦ elim out [
            | inl early ↦ let is = same in omega (arith, ints)
            | inr after ↦ let is = same in omega (arith, ints)
          ]
        ];
        change = second;
        before = inner;
        after = outer;
        until_then = s.inside (second -ℤ pos 1) s.reads_before_second (omega (arith, ints)) (omega (arith, ints));
        from_then = s.outside second s.reads_second (inr (omega (arith, ints)));
        later = omega (arith, ints);
        earlier = omega (arith, ints);
        told = refl;
      }))

  outer_told : ((at <ℤ (first +ℤ outer)) ⊎ (at <ℤ (first +ℤ inner)))
      ⊎ (((second +ℤ inner) ≤ℤ at) × ((second +ℤ outer) ≤ℤ at))
      → IsTold zone civil (seconds_to civil outer)
  outer_told (inr (after, past)) =
      let one = after in
      let two = past in
      inl (record {
        shown = (outer, s.outside (seconds_to civil outer) by_outer (inr (omega (arith, ints))), refl);
        first = λ m shows. elim (showing m shows) [
          | inl (same, _, b) ↦ let is = same in let there = b in absurd (omega (arith, ints))
          | inr (same, _) ↦ let is = same in omega (arith, ints)
        ];
      })
  outer_told (inl early) =
      let one = s.apart.0 in
      let two = s.apart.1 in
      by_lt_z at (first +ℤ outer)
      (λ within. inl (record {
        shown = (outer, s.outside (seconds_to civil outer) by_outer (inl (omega (arith, ints))), refl);
        first = λ m shows. elim (showing m shows) [
          | inl (same, l, _) ↦ let is = same in let there = l in omega (arith, ints)
          | inr (same, _) ↦ let is = same in omega (arith, ints)
        ];
      }))
      (λ over.
      let still : at <ℤ (first +ℤ inner) = elim early [
        | inl b ↦ absurd (omega (arith, ints))
        | inr b ↦ b
      ] in
      inr (record {
        never = λ m shows. elim (showing m shows) [
          | inl (same, l, _) ↦ let is = same in let there = l in omega (arith, ints)
          | inr (same, out) ↦ elim out [
            | inl b ↦ let is = same in omega (arith, ints)
            | inr b ↦ let is = same in omega (arith, ints)
          ]
        ];
        change = first;
        before = outer;
        after = inner;
        until_then = s.outside (first -ℤ pos 1) s.reads_before_first (inl (omega (arith, ints)));
        from_then = s.inside first s.reads_first (omega (arith, ints)) (omega (arith, ints));
        later = omega (arith, ints);
        earlier = omega (arith, ints);
        told = refl;
      }))

  told_by : (offset : ℤ) → IsPicked inner outer first second at offset → IsTold zone civil (seconds_to civil offset)
  told_by offset (inl (is, late, past, before)) = subst (λ o. IsTold zone civil (seconds_to civil o)) (sym is)
      (inner_told late past before)
  told_by offset (inr (is, out)) = subst (λ o. IsTold zone civil (seconds_to civil o)) (sym is) (outer_told out)

-- ---- the reader's civil times
-- a civil time of the years that the reader takes, on its day of its year
record IsRead (civil : Civil) : Type 0 where
  year : ℕ
  is_year : civil.year ≡ pos year
  late : year ≤ 9999
  reads : Reads civil.year (civil.day *ℤ pos 86400 +ℤ pos civil.clock)

clock_below : (hours minutes seconds clock : ℕ) → clock_in hours minutes seconds ≡ Some clock → clock < 86400
clock_below hours minutes seconds clock e =
    let (test, same) = cond_some (nat_le hours 23 && nat_le minutes 59 && nat_le seconds 59)
    (3600 * hours + 60 * minutes + seconds) clock e in
    let (front, third) = and_parts (nat_le hours 23 && nat_le minutes 59) (nat_le seconds 59) test in
    let (first, second) = and_parts (nat_le hours 23) (nat_le minutes 59) front in
    let a = leb-true hours 23 first in
    let b = leb-true minutes 59 second in
    let c = leb-true seconds 59 third in
    let is = same in
    omega arith

day_within : (year month day : ℕ) (number : ℤ) → day_in year month day ≡ Some number
    → (year ≤ 9999) × (first_day (pos year) ≤ℤ number) × (number <ℤ
    (first_day (pos year) +ℤ pos (days_in_year (pos year))))
day_within year month day number e =
    let (test, same) = cond_some (nat_le year 9999 && (nat_le 1 month && nat_le month 12)
    && (nat_le 1 day && nat_le day (days_in_month (pos year) month))) (days_from_civil (pos year) month day) number e in
    let is = passed year month day test in
    let late = is.0.1 in
    let m = is.1 in
    let d = is.2 in
    let low = d.0 in
    let high = d.1 in
    let date : IsCivilDate (pos year) month day = (
      is.0,
      (omega (arith, ints, m.0), omega (arith, ints, m.1)),
      (omega (arith, ints, low), omega (arith, ints, high)),
    ) in
    let bound = day_of_year_bound (pos year) month day date in
    let place = day_count-day_of_year (pos year) month day (omega (arith, ints, low)) in
    let count = days_from_civil-day_count (pos year) month day in
    let start = days_from_civil-day_count (pos year) 1 1 in
    let at_least : 1 ≤ day_of_year (pos year) month day = omega (arith, ints, low) in
    (omega (arith, ints), omega (arith, ints), omega (arith, ints))

civil_parts : (year : ℕ) (day : Option ℤ) (clock : Option ℕ) (civil : Civil) → civil_of year day clock ≡ Some civil
    → (civil.year ≡ pos year) × (day ≡ Some civil.day) × (clock ≡ Some civil.clock)
civil_parts year (Some day) (Some clock) civil e =
    let same : record { year = pos year; day = day; clock = clock } ≡ civil = same_Some _ _ e in
    (sym (ap (λ c. c.year) same), ap (λ (c : Civil). Some c.day) same, ap (λ (c : Civil). Some c.clock) same)
civil_parts year (Some day) None civil e = absurd (none-some civil e)
civil_parts year None clock civil e = absurd (none-some civil e)

is_read : (text : List ℕ) (civil : Civil) → civil_in text ≡ Some civil → IsRead civil
is_read text civil e = elim (has_form (codes "0000-00-00T00:00:00") text) as (λ t. cond t (civil_of (number_at text 0 4)
    (day_in (number_at text 0 4) (number_at text 5 7) (number_at text 8 10))
    (clock_in (number_at text 11 13) (number_at text 14 16) (number_at text 17 19))) None ≡ Some civil → IsRead civil) [
      | true ↦ λ there.
          let (same, day, clock) = civil_parts (number_at text 0 4)
          (day_in (number_at text 0 4) (number_at text 5 7) (number_at text 8 10))
          (clock_in (number_at text 11 13) (number_at text 14 16) (number_at text 17 19)) civil there in
          let (late, low, high) = day_within (number_at text 0 4) (number_at text 5 7) (number_at text 8 10) civil.day
          day in
          let small = clock_below (number_at text 11 13) (number_at text 14 16) (number_at text 17 19) civil.clock
          clock in
          let reads : Reads (pos (number_at text 0 4)) (civil.day *ℤ pos 86400 +ℤ pos civil.clock) =
          (omega (arith, ints), omega (arith, ints)) in
          record {
            year = number_at text 0 4;
            is_year = same;
            late = late;
            reads = subst (λ y. Reads y (civil.day *ℤ pos 86400 +ℤ pos civil.clock)) (sym same) reads;
          }
      | false ↦ λ there. absurd (none-some civil there)
    ] e

-- ---- zones
second_is_civil : (year second : ℤ) → IsYear year → IsInYear year second → IsCivilSecond second
second_is_civil year second is within =
    let high = year_end_bound year is in
    let low = year_start_bound year is in
    let a = within.0 in
    let b = within.1 in
    (omega (arith, ints), omega (arith, ints))

module _ (name : List ℕ) (std : ℤ) (d : DstText) (civil : Civil) (read : IsRead civil) where
  abbrev zone : TzText
  zone = record { std_name = name; std_seconds = std; dst = Some d }

  is_in : IsYear civil.year
  is_in = let e = read.is_year in let l = read.late in (omega (arith, ints), omega (arith, ints))

  is_after : IsYear (civil.year -ℤ pos 1)
  is_after = let e = read.is_year in let l = read.late in (omega (arith, ints), omega (arith, ints))

  by_std : ReadsIn std d civil.year (seconds_to civil std)
  by_std = let a = read.reads.0 in let b = read.reads.1 in inl (omega (arith, ints), omega (arith, ints))

  by_dst : ReadsIn std d civil.year (seconds_to civil d.seconds)
  by_dst = let a = read.reads.0 in let b = read.reads.1 in inr (omega (arith, ints), omega (arith, ints))

  reads_before : (t : ℤ) → AllShowYear std d.seconds civil.year t → ReadsIn std d civil.year (t -ℤ pos 1)
  reads_before t shown = let a = shown.0.0 in let b = shown.0.1 in inl (omega (arith, ints), omega (arith, ints))

  module _ (all : BeginsFirst std d) where
    first_swings : Swings zone (ReadsIn std d civil.year) d.seconds std (all civil.year is_in).0.begun
        (all civil.year is_in).0.ended
    first_swings =
        let c = (all civil.year is_in).0 in
        record {
          inside = λ m reads late before. inl (saving_between std d all civil.year m is_in reads late before, refl);
          outside = λ m reads out. inr (not_saving_beside std d all civil.year m is_in reads out, refl);
          only_inside = λ m o reads late before stands. elim stands [
            | inl (_, e) ↦ e
            | inr (never, e) ↦ absurd (never (saving_between std d all civil.year m is_in reads late before))
          ];
          only_outside = λ m o reads out stands. elim stands [
            | inl (saving, e) ↦ absurd (not_saving_beside std d all civil.year m is_in reads out saving)
            | inr (_, e) ↦ e
          ];
          either = λ m o stands. elim stands [
            | inl (_, e) ↦ inl e
            | inr (_, e) ↦ inr e
          ];
          reads_first = reads_change std d civil.year c.begun c.begun_in;
          reads_before_first = reads_before c.begun c.begun_in;
          reads_second = reads_change std d civil.year c.ended c.ended_in;
          reads_before_second = reads_before c.ended c.ended_in;
          apart = let a = (all civil.year is_in).1.0 in let b = (all civil.year is_in).1.1 in
              (omega (arith, ints), omega (arith, ints));
        }

    first_told : IsTold zone civil (seconds_to civil (offset_of zone civil))
    first_told =
        let c = (all civil.year is_in).0 in
        let starts = comes civil.year d.start (c.begun +ℤ std) c.begins c.begun_in.0 in
        let finishes = comes civil.year d.finish (c.ended +ℤ d.seconds) c.ends c.ended_in.1 in
        let n : shown civil ≡ (civil.day *ℤ pos 86400 +ℤ pos civil.clock) *ℤ pos 1_000_000_000 = omega (arith, ints) in
        let picked = picked_first std d.seconds c.begun c.ended (civil.day *ℤ pos 86400 +ℤ pos civil.clock)
        (second_is_civil civil.year (c.begun +ℤ d.seconds) is_in c.begun_in.1)
        (second_is_civil civil.year (c.ended +ℤ std) is_in c.ended_in.0) (all civil.year is_in).1 in
        rw (starts, finishes, n) (told_by zone civil (ReadsIn std d civil.year) d.seconds std c.begun c.ended
        first_swings by_dst by_std _ picked)

  module _ (all : EndsFirst std d) where
    holds_beside : (m : ℤ) → ReadsIn std d civil.year m
        → (m <ℤ (all civil.year is_in).0.ended) ⊎ ((all civil.year is_in).0.begun ≤ℤ m) → IsSaving std d m
    holds_beside m reads (inl before) = saving_before std d all civil.year m is_in reads is_after before
    holds_beside m reads (inr after) = saving_after std d all civil.year m is_in reads after

    last_swings : Swings zone (ReadsIn std d civil.year) std d.seconds (all civil.year is_in).0.ended
        (all civil.year is_in).0.begun
    last_swings =
        let c = (all civil.year is_in).0 in
        record {
          inside = λ m reads late before. inr (not_saving_between std d all civil.year m is_in reads late before, refl);
          outside = λ m reads out. inl (holds_beside m reads out, refl);
          only_inside = λ m o reads late before stands. elim stands [
            | inl (saving, e) ↦ absurd (not_saving_between std d all civil.year m is_in reads late before saving)
            | inr (_, e) ↦ e
          ];
          only_outside = λ m o reads out stands. elim stands [
            | inl (_, e) ↦ e
            | inr (never, e) ↦ absurd (never (holds_beside m reads out))
          ];
          either = λ m o stands. elim stands [
            | inl (_, e) ↦ inr e
            | inr (_, e) ↦ inl e
          ];
          reads_first = reads_change std d civil.year c.ended c.ended_in;
          reads_before_first = reads_before c.ended c.ended_in;
          reads_second = reads_change std d civil.year c.begun c.begun_in;
          reads_before_second = reads_before c.begun c.begun_in;
          apart = (all civil.year is_in).1;
        }

    last_told : IsTold zone civil (seconds_to civil (offset_of zone civil))
    last_told =
        let c = (all civil.year is_in).0 in
        let starts = comes civil.year d.start (c.begun +ℤ std) c.begins c.begun_in.0 in
        let finishes = comes civil.year d.finish (c.ended +ℤ d.seconds) c.ends c.ended_in.1 in
        let n : shown civil ≡ (civil.day *ℤ pos 86400 +ℤ pos civil.clock) *ℤ pos 1_000_000_000 = omega (arith, ints) in
        let picked = picked_last std d.seconds c.begun c.ended (civil.day *ℤ pos 86400 +ℤ pos civil.clock)
        (second_is_civil civil.year (c.begun +ℤ d.seconds) is_in c.begun_in.1)
        (second_is_civil civil.year (c.ended +ℤ std) is_in c.ended_in.0) (all civil.year is_in).1 in
        rw (starts, finishes, n) (told_by zone civil (ReadsIn std d civil.year) std d.seconds c.ended c.begun
        last_swings by_std by_dst _ picked)

zone_told : (name : List ℕ) (std : ℤ) (dst : Option DstText) (civil : Civil) → IsRead civil → IsRegularWith std dst
    → let zone : TzText = record { std_name = name; std_seconds = std; dst = dst } in
    IsTold zone civil (seconds_to civil (offset_of zone civil))
zone_told name std None civil read regular = inl (record {
  shown = (std, refl, refl);
  first = λ m shows. let (o, stands, told) = shows in let is = told
      ∙ ap (seconds_to civil) stands in omega (arith, ints);
})
zone_told name std (Some d) civil read (inl all) = first_told name std d civil read all
zone_told name std (Some d) civil read (inr all) = last_told name std d civil read all

-- what is in range is the moment
in_range_is : (f : Field) (most : ℕ) (z : ℤ) (moment : ℕ) → in_range f 0 most z ≡ Ok moment → z ≡ pos moment
in_range_is f most (pos n) moment e = elim (nat_le 0 n && nat_le n most) as
    (λ t. (unless (refusal.Range f) t >>= (λ _. Ok n)) ≡ Ok moment → pos n ≡ pos moment) [
      | true ↦ λ there. let same : n ≡ moment = cc in ap (λ k. pos k) same
      | false ↦ λ there. absurd (cc)
    ] e
in_range_is f most (negsuc n) moment e = absurd (cc)

pub clocks_show_starts : ClocksShowStarts
clocks_show_starts text start zone civil moment names regular is at =
    let here : moment_at civil (offset_of zone civil) ≡ Ok moment = rw names at at in
    subst (IsTold zone civil) (in_range_is field.Start 4102444800 (seconds_to civil (offset_of zone civil)) moment here)
    (zone_told zone.std_name zone.std_seconds zone.dst civil (is_read start civil is) regular)
