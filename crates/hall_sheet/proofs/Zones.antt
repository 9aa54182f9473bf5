-- The offsets of the definition are those that the calendar's crate finds.
use Rattle.std.proofs.Common.{◌≡◌, ◌∙◌, sym, ap, refl, arith, ℕ, ◌*◌, Bool, true, false, not, ◌&&◌, inl, inr, ℤ, pos}
use Rattle.std.proofs.Common.{negsuc, ◌+ℤ◌, ◌-ℤ◌, ◌*ℤ◌, List, Option, Some, None, Result, Err}
use Rattle.std.specs.Prelude.{if◌then◌else◌, int_lt, int_div, unsigned_abs, option_map, ◌<◌, ◌+◌}
use Rattle.std.proofs.lemmas.Bool.{cases_lt, le-leb, lt-leb}
use Rattle.std.proofs.lemmas.Int.{ints, quot-rem, rem_below}
use Rattle.jiff_core.specs.declared.Offset.{Offset}
use Rattle.jiff_core.specs.declared.civil.datetime.DateTime.{DateTime}
use Rattle.jiff_core.specs.Date.{epoch_day}
use Rattle.jiff_core.specs.DateTime.{civil_nanos}
use Rattle.jiff_core.specs.Time.{time_seconds}
use Rattle.jiff_core.specs.Timestamp.{nanos_of_seconds, IsTimestampNanos}
use Rattle.jiff_tz.specs.declared.posix.DayTime.{DayTime}
use Rattle.jiff_tz.specs.declared.posix.Dst.{Dst}
use Rattle.jiff_tz.specs.declared.ambiguous.AmbiguousOffset.{AmbiguousOffset}
use Rattle.jiff_tz.specs.declared.ambiguous.AmbiguousOffset.TheVariants.{Unambiguous, Gap, Fold}
use Rattle.jiff_tz.specs.declared.timezone.TimeZone.{TimeZone}
use Rattle.jiff_tz.specs.declared.timezone.TimeZone.TheVariants.{UTC, Unknown, Fixed, Posix, Tzif}
use Rattle.jiff_tz.specs.Ambiguous.{compatible_offset, instant_of}
use Rattle.jiff_tz.specs.PosixReader.{match_some, read_whole}
use Rattle.jiff_tz.specs.PosixText.{TzText, tz_view, dst_view, day_time_view}
use Rattle.jiff_tz.specs.PosixRule.{clamp_to, nanos_per_day, first_nanosecond, last_nanosecond, rule_day, rule_nanos}
use Rattle.jiff_tz.specs.PosixRule.{in_window, in_span, saturating_add, saturating_sub, shift_between, ambiguous_by}
use Rattle.jiff_tz.specs.PosixRule.{ambiguous_at_by}
use Rattle.jiff_tz.specs.Zone.{ambiguous_at}
use Rattle.jiff.specs.Placed.{IsPosixZone}
use Rattle.hall_policy.specs.Limits.{last_second}
use Rattle.hall_sheet.specs.declared.fault.Field.TheVariants as field
use Rattle.hall_sheet.specs.declared.fault.Refusal.TheVariants as refusal
use Rattle.hall_sheet.specs.declared.fault.SheetFault.{SheetFault}
use Rattle.hall_sheet.specs.Given.{Gives}
use Rattle.hall_sheet.specs.Table.{in_range}
use Rattle.hall_sheet.specs.Civil.{seconds_to, civil_seen}
use Rattle.hall_sheet.specs.Zone.{comes_at, offset_by, offset_with, offset_of, shown, moment_in}

some_same : {A : Type 0} {x y : A} → Some x ≡ Some y → x ≡ y
some_same e = cc

-- the seconds of the offset that a civil time has before a change
abbrev chosen : AmbiguousOffset → ℤ
chosen offsets = (compatible_offset offsets).seconds

behind_is : (a b c : Bool) (std dst : Offset)
    → chosen (if a then Unambiguous dst else (if b then Fold std dst else (if c then Gap dst std else Unambiguous std)))
    ≡ (if a then dst.seconds else (if b then std.seconds else (if c then dst.seconds else std.seconds)))
behind_is true b c std dst = refl
behind_is false true c std dst = refl
behind_is false false true std dst = refl
behind_is false false false std dst = refl

ahead_is : (a b c : Bool) (std dst : Offset)
    → chosen (if not a then Unambiguous std else (if b then Gap std dst else
    (if c then Fold dst std else Unambiguous dst)))
    ≡ (if a && not b then dst.seconds else std.seconds)
ahead_is false b c std dst = refl
ahead_is true true c std dst = refl
ahead_is true false true std dst = refl
ahead_is true false false std dst = refl

either : (a b : Bool) (p q r : AmbiguousOffset) (m n o : ℤ) → chosen p ≡ m → chosen q ≡ n → chosen r ≡ o
    → chosen (if a then p else (if b then q else r)) ≡ (if a then m else (if b then n else o))
either true b p q r m n o e f g = e
either false true p q r m n o e f g = f
either false false p q r m n o e f g = g

by_is : (std dst : Offset) (w : ℤ × ℤ) (at : ℤ)
    → chosen (ambiguous_by std dst w at) ≡ offset_by std.seconds dst.seconds w at
by_is std dst w at =
    either (int_lt dst.seconds std.seconds) (int_lt std.seconds dst.seconds) _ _ _ _ _ _
    (behind_is (in_window w at) (in_span (saturating_add w.0 (shift_between std dst)) w.0 at)
    (in_span w.1 (saturating_sub w.1 (shift_between std dst)) at) std dst)
    (ahead_is (in_window w at) (in_span w.0 (saturating_add w.0 (shift_between std dst)) at)
    (in_span (saturating_sub w.1 (shift_between std dst)) w.1 at) std dst)
    refl

at_utc : (seconds : ℤ) → seconds -ℤ pos 0 ≡ seconds
at_utc seconds = omega (arith, ints)

comes_is : (year : ℤ) (d : DayTime) → rule_nanos year d (pos 0) ≡ comes_at year (day_time_view d)
unfolding rule_nanos
comes_is year d =
    ap (λ seconds. match_some (rule_day year d.date) (last_nanosecond year) (λ day.
    clamp_to (first_nanosecond year) (last_nanosecond year) (day *ℤ nanos_per_day +ℤ nanos_of_seconds seconds)))
    (at_utc d.time)

with_is : (std : Offset) (dst : Option Dst) (dt : DateTime) → chosen (ambiguous_at_by std dst dt)
    ≡ offset_with std.seconds (option_map dst_view dst) dt.date.year (civil_nanos dt)
with_is std None dt = refl
with_is std (Some d) dt =
    ap (λ w. chosen (ambiguous_by std d.offset w (civil_nanos dt)))
    (ap (λ a. (a, rule_nanos dt.date.year d.rule.end (pos 0))) (comes_is dt.date.year d.rule.start)
    ∙ ap (λ b. (comes_at dt.date.year (day_time_view d.rule.start), b)) (comes_is dt.date.year d.rule.end))
    ∙ by_is std d.offset
    (comes_at dt.date.year (day_time_view d.rule.start), comes_at dt.date.year (day_time_view d.rule.end))
    (civil_nanos dt)

offset_is : (text : List ℕ) (tz : TimeZone) (rule : TzText) (dt : DateTime) → IsPosixZone text tz
    → read_whole text ≡ Some rule
    → chosen (ambiguous_at tz dt) ≡ offset_with rule.std_seconds rule.dst dt.date.year (civil_nanos dt)
unfolding ambiguous_at
offset_is text UTC rule dt is e = absurd is
offset_is text Unknown rule dt is e = absurd is
offset_is text (Fixed o) rule dt is e = absurd is
offset_is text (Tzif z) rule dt is e = absurd is
offset_is text (Posix r) rule dt is e =
    let same : tz_view r ≡ rule = some_same (sym is ∙ e) in
    with_is r.std_offset r.dst dt ∙ ap (λ z. offset_with z.std_seconds z.dst dt.date.year (civil_nanos dt)) same

nanos_is : (dt : DateTime) → dt.time.subsec_nanosecond ≡ 0 → civil_nanos dt ≡ shown (civil_seen dt)
unfolding civil_nanos
nanos_is dt e =
    ap (λ n. epoch_day dt.date *ℤ nanos_per_day +ℤ pos (time_seconds dt.time * 1_000_000_000 + n)) e
    ∙ omega (arith, ints)

scaled : (day off : ℤ) (clock : ℕ) → day *ℤ nanos_per_day +ℤ pos (clock * 1_000_000_000) -ℤ nanos_of_seconds off
    ≡ (day *ℤ pos 86400 +ℤ pos clock -ℤ off) *ℤ pos 1_000_000_000
scaled day off clock = omega (arith, ints)

-- the instant of a civil time in a zone is the definition's, in nanoseconds
instant_is : (text : List ℕ) (tz : TimeZone) (rule : TzText) (dt : DateTime) → dt.time.subsec_nanosecond ≡ 0
    → IsPosixZone text tz → read_whole text ≡ Some rule
    → instant_of dt (compatible_offset (ambiguous_at tz dt))
    ≡ seconds_to (civil_seen dt) (offset_of rule (civil_seen dt)) *ℤ pos 1_000_000_000
instant_is text tz rule dt whole is e =
    let n = nanos_is dt whole in
    let o : chosen (ambiguous_at tz dt) ≡ offset_of rule (civil_seen dt) =
    offset_is text tz rule dt is e ∙ ap (λ at. offset_with rule.std_seconds rule.dst dt.date.year at) n in
    ap (λ at. at -ℤ nanos_of_seconds (chosen (ambiguous_at tz dt))) n
    ∙ ap (λ off. shown (civil_seen dt) -ℤ nanos_of_seconds off) o
    ∙ scaled (epoch_day dt.date) (offset_of rule (civil_seen dt)) (time_seconds dt.time)

near : (q r s : ℤ) → q *ℤ pos 1_000_000_000 +ℤ r ≡ s *ℤ pos 1_000_000_000 → unsigned_abs r < 1_000_000_000 → q ≡ s
near q (pos r) s e small = omega (arith, ints)
near q (negsuc r) s e small = omega (arith, ints)

-- whole seconds
exact : (n s : ℤ) → n ≡ s *ℤ pos 1_000_000_000 → int_div n (pos 1_000_000_000) ≡ s
exact n s e = near _ _ s (quot-rem n (pos 1_000_000_000) ∙ e) (rem_below n (pos 1_000_000_000) (omega arith))

-- seconds that are out of the calendar's range are those of no moment
out_of_range : (s : ℤ) → (IsTimestampNanos (s *ℤ pos 1_000_000_000) → ⊥)
    → in_range field.Start 0 last_second s ≡ Err (refusal.Range field.Start)
out_of_range (negsuc n) out = refl
out_of_range (pos n) out =
    elim (cases_lt last_second n) [
      | inl many ↦ rw (le-leb 0 n (omega arith), lt-leb n last_second many) refl
      | inr few ↦ absurd (out (omega (arith, ints), omega (arith, ints)))
    ]

-- the zone that a text names is a rule's
has_rule : (text : List ℕ) (tz : TimeZone) → IsPosixZone text tz → (rule : TzText) × (read_whole text ≡ Some rule)
has_rule text (Posix r) is = (tz_view r, is)
has_rule text UTC is = absurd is
has_rule text Unknown is = absurd is
has_rule text (Fixed o) is = absurd is
has_rule text (Tzif z) is = absurd is

module _ (text : List ℕ) (tz : TimeZone) (dt : DateTime) where
  -- a moment is read off the instant
  pub moment_is : (nanosecond seconds : ℤ) (r : Result ℕ SheetFault) → dt.time.subsec_nanosecond ≡ 0
      → IsPosixZone text tz → nanosecond ≡ instant_of dt (compatible_offset (ambiguous_at tz dt))
      → seconds ≡ int_div nanosecond (pos 1_000_000_000)
      → Gives (λ n. n) r (in_range field.Start 0 last_second seconds)
      → Gives (λ n. n) r (moment_in text (civil_seen dt))
  moment_is nanosecond seconds r whole is at cut given =
      let (rule, e) = has_rule text tz is in
      let same : seconds ≡ seconds_to (civil_seen dt) (offset_of rule (civil_seen dt)) =
      cut ∙ exact nanosecond _ (at ∙ instant_is text tz rule dt whole is e) in
      rw (e, ← same) given

  -- no instant, no moment
  pub no_moment : dt.time.subsec_nanosecond ≡ 0 → IsPosixZone text tz
      → (IsTimestampNanos (instant_of dt (compatible_offset (ambiguous_at tz dt))) → ⊥)
      → moment_in text (civil_seen dt) ≡ Err (refusal.Range field.Start)
  no_moment whole is out =
      let (rule, e) = has_rule text tz is in
      rw e (out_of_range (seconds_to (civil_seen dt) (offset_of rule (civil_seen dt)))
      (rw (instant_is text tz rule dt whole is e) at out))
