-- Which of its two offsets a zone's rule picks for a civil time.
use Rattle.std.proofs.Common.{◌≡◌, ◌∙◌, sym, ap, refl, arith, ◌⊎◌, inl, inr, Bool, true, false, not, ◌&&◌, cond, ℤ, pos}
use Rattle.std.proofs.Common.{neg_ℤ, ◌+ℤ◌, ◌-ℤ◌, ◌*ℤ◌, ◌<ℤ◌, ◌≤ℤ◌, Option, Some, None}
use Rattle.std.specs.Prelude.{int_lt, int_le, if◌then◌else◌, option_map}
use Rattle.std.proofs.lemmas.Int.{ints, by_lt_z}
use Rattle.jiff_core.specs.Timestamp.{nanos_of_seconds}
use Rattle.jiff_tz.specs.declared.posix.Day.{Day}
use Rattle.jiff_tz.specs.PosixRule.{match_some, clamp_to, nanos_per_day, first_nanosecond, last_nanosecond, rule_day}
use Rattle.jiff_tz.specs.PosixRule.{in_window, in_span, civil_min, civil_max, saturating_add, saturating_sub}
use Rattle.hall_sheet.specs.Clocks.{second_in, IsInYear, LieApart}
use Rattle.hall_sheet.specs.Zone.{comes_at, ahead, offset_by}

yes_lt : (a b : ℤ) → a <ℤ b → int_lt a b ≡ true
yes_lt a b h = elim (int_lt a b) as (λ t. int_lt a b ≡ t → t ≡ true) [
  | true ↦ λ e. refl
  | false ↦ λ e. absurd (omega (arith, ints))
] refl

no_lt : (a b : ℤ) → b ≤ℤ a → int_lt a b ≡ false
no_lt a b h = elim (int_lt a b) as (λ t. int_lt a b ≡ t → t ≡ false) [
  | true ↦ λ e. absurd (omega (arith, ints))
  | false ↦ λ e. refl
] refl

yes_le : (a b : ℤ) → a ≤ℤ b → int_le a b ≡ true
yes_le a b h = elim (int_le a b) as (λ t. int_le a b ≡ t → t ≡ true) [
  | true ↦ λ e. refl
  | false ↦ λ e. absurd (omega (arith, ints))
] refl

no_le : (a b : ℤ) → b <ℤ a → int_le a b ≡ false
no_le a b h = elim (int_le a b) as (λ t. int_le a b ≡ t → t ≡ false) [
  | true ↦ λ e. absurd (omega (arith, ints))
  | false ↦ λ e. refl
] refl

clamp_inside : (low high n : ℤ) → low ≤ℤ n → n ≤ℤ high → clamp_to low high n ≡ n
clamp_inside low high n least most = rw (no_lt n low least, no_lt high n most) refl

-- the moment of a rule that comes within the year is that of its day and time
comes_by : (year : ℤ) (day : Option ℤ) (time second : ℤ)
    → option_map (λ d. d *ℤ pos 86400 +ℤ time) day ≡ Some second → IsInYear year second
    → match_some day (last_nanosecond year) (λ d. clamp_to (first_nanosecond year) (last_nanosecond year)
    (d *ℤ nanos_per_day +ℤ nanos_of_seconds time)) ≡ second *ℤ pos 1_000_000_000
comes_by year None time second e within = absurd (cc)
comes_by year (Some d) time second e within =
    let at : d *ℤ pos 86400 +ℤ time ≡ second = cc in
    let whole : d *ℤ nanos_per_day +ℤ nanos_of_seconds time ≡ second *ℤ pos 1_000_000_000 = omega (arith, ints) in
    let low = within.0 in
    let high = within.1 in
    ap (clamp_to (first_nanosecond year) (last_nanosecond year)) whole
    ∙ clamp_inside (first_nanosecond year) (last_nanosecond year) (second *ℤ pos 1_000_000_000)
    (omega (arith, ints)) (omega (arith, ints))

pub comes : (year : ℤ) (rule : Day × ℤ) (second : ℤ) → second_in year rule ≡ Some second → IsInYear year second
    → comes_at year rule ≡ second *ℤ pos 1_000_000_000
comes year rule second e within = comes_by year (rule_day year rule.0) rule.1 second e within

-- a civil time of the calendar's
abbrev pub IsCivilSecond : ℤ → Type 0
IsCivilSecond second = (neg_ℤ (pos 377_705_116_800) ≤ℤ second) × (second <ℤ pos 253_402_300_800)

added : (n delta second : ℤ) → n +ℤ delta ≡ second *ℤ pos 1_000_000_000 → IsCivilSecond second
    → saturating_add n delta ≡ second *ℤ pos 1_000_000_000
added n delta second sum is =
    let low = is.0 in
    let high = is.1 in
    ap (clamp_to civil_min civil_max) sum
    ∙ clamp_inside civil_min civil_max (second *ℤ pos 1_000_000_000) (omega (arith, ints)) (omega (arith, ints))

taken : (n delta second : ℤ) → n -ℤ delta ≡ second *ℤ pos 1_000_000_000 → IsCivilSecond second
    → saturating_sub n delta ≡ second *ℤ pos 1_000_000_000
taken n delta second sum is =
    let low = is.0 in
    let high = is.1 in
    ap (clamp_to civil_min civil_max) sum
    ∙ clamp_inside civil_min civil_max (second *ℤ pos 1_000_000_000) (omega (arith, ints)) (omega (arith, ints))

-- Between two changes the clocks stand by the inner offset, beside them by the outer one. What is picked for a civil
-- time is the inner one from where both clocks show that the first change has come until neither shows that the second
-- is to come.
abbrev pub IsPicked : ℤ → ℤ → ℤ → ℤ → ℤ → ℤ → Type 0
IsPicked inner outer first second at offset =
    ((offset ≡ inner) × ((first +ℤ outer) ≤ℤ at) × ((first +ℤ inner) ≤ℤ at)
    × ((at <ℤ (second +ℤ inner)) ⊎ (at <ℤ (second +ℤ outer))))
    ⊎ ((offset ≡ outer) × (((at <ℤ (first +ℤ outer)) ⊎ (at <ℤ (first +ℤ inner)))
    ⊎ (((second +ℤ inner) ≤ℤ at) × ((second +ℤ outer) ≤ℤ at))))

either_same : (b : Bool) (o : ℤ) → cond b o o ≡ o
either_same true o = refl
either_same false o = refl

-- what the rule picks, with its moments and a civil time in seconds
abbrev pick_behind : ℤ → ℤ → ℤ → ℤ → ℤ → ℤ → ℤ → ℤ
pick_behind std dst start start_after finish finish_after at =
    if in_window (start, finish) at then dst
    else (if in_span start_after start at then std
    else (if in_span finish finish_after at then dst else std))

abbrev pick_ahead : ℤ → ℤ → ℤ → ℤ → ℤ → ℤ → ℤ
pick_ahead std dst start start_after finish at =
    if in_window (start, finish) at && not (in_span start start_after at) then dst else std

module _ (std dst begun ended at : ℤ) (start start_after finish finish_after n : ℤ)
    (s : start ≡ (begun +ℤ std) *ℤ pos 1_000_000_000) (s' : start_after ≡ (begun +ℤ dst) *ℤ pos 1_000_000_000)
    (f : finish ≡ (ended +ℤ dst) *ℤ pos 1_000_000_000) (f' : finish_after ≡ (ended +ℤ std) *ℤ pos 1_000_000_000)
    (c : n ≡ at *ℤ pos 1_000_000_000) where
  behind_first : dst <ℤ std → LieApart std dst begun ended
      → IsPicked dst std begun ended at (pick_behind std dst start start_after finish finish_after n)
  behind_first behind apart =
      let one = apart.0 in
      let two = apart.1 in
      let order = yes_le start finish (omega (arith, ints)) in
      by_lt_z at (begun +ℤ std)
      (λ early. inr (
        rw (order, no_le start n (omega (arith, ints)), no_le finish n (omega (arith, ints)))
            (either_same (in_span start_after start n) std),
        inl (inl early),
      ))
      (λ late.
      let since = yes_le start n (omega (arith, ints)) in
      by_lt_z at (ended +ℤ std)
      (λ before. inl (
        by_lt_z at (ended +ℤ dst)
            (λ within. rw (order, since, yes_lt n finish (omega (arith, ints))) refl)
            (λ over. rw (
              order,
              since,
              no_lt n finish (omega (arith, ints)),
              no_lt n start (omega (arith, ints)),
              yes_le start_after n (omega (arith, ints)),
              yes_le finish n (omega (arith, ints)),
              yes_lt n finish_after (omega (arith, ints)),
            ) refl),
        late,
        omega (arith, ints),
        inr before,
      ))
      (λ after. inr (
        rw (
          order,
          since,
          no_lt n finish (omega (arith, ints)),
          no_lt n start (omega (arith, ints)),
          yes_le start_after n (omega (arith, ints)),
          yes_le finish n (omega (arith, ints)),
          no_lt n finish_after (omega (arith, ints)),
        ) refl,
        inr (omega (arith, ints), after),
      )))

  ahead_first : std <ℤ dst → LieApart std dst begun ended
      → IsPicked dst std begun ended at (pick_ahead std dst start start_after finish n)
  ahead_first front apart =
      let one = apart.0 in
      let two = apart.1 in
      let order = yes_le start finish (omega (arith, ints)) in
      by_lt_z at (begun +ℤ std)
      (λ early. inr (rw (order, no_le start n (omega (arith, ints))) refl, inl (inl early)))
      (λ late.
      let since = yes_le start n (omega (arith, ints)) in
      by_lt_z at (begun +ℤ dst)
      (λ gap. inr (
        rw (order, since, yes_lt n finish (omega (arith, ints)), yes_lt n start_after (omega (arith, ints)))
            refl,
        inl (inr gap),
      ))
      (λ past. by_lt_z at (ended +ℤ dst)
      (λ before. inl (
        rw (order, since, yes_lt n finish (omega (arith, ints)), no_lt n start_after (omega (arith, ints))) refl,
        late,
        past,
        inl before,
      ))
      (λ after. inr (rw (order, since, no_lt n finish (omega (arith, ints))) refl, inr (after, omega (arith, ints))))))

  behind_last : dst <ℤ std → LieApart std dst ended begun
      → IsPicked std dst ended begun at (pick_behind std dst start start_after finish finish_after n)
  behind_last behind apart =
      let one = apart.0 in
      let two = apart.1 in
      let order = no_le start finish (omega (arith, ints)) in
      by_lt_z at (ended +ℤ std)
      (λ early. by_lt_z at (ended +ℤ dst)
      (λ far. inr (rw (order, no_le finish n (omega (arith, ints))) refl, inl (inl far)))
      (λ gap. inr (
        rw (
          order,
          yes_le finish n (omega (arith, ints)),
          yes_lt n start (omega (arith, ints)),
          no_le start_after n (omega (arith, ints)),
          yes_lt n finish_after (omega (arith, ints)),
        ) refl,
        inl (inr early),
      )))
      (λ late.
      let since = yes_le finish n (omega (arith, ints)) in
      by_lt_z at (begun +ℤ std)
      (λ before. inl (
        rw (order, since, yes_lt n start (omega (arith, ints)), no_lt n finish_after (omega (arith, ints)))
            (either_same _ std),
        omega (arith, ints),
        late,
        inl before,
      ))
      (λ after. inr (rw (order, since, no_lt n start (omega (arith, ints))) refl, inr (after, omega (arith, ints)))))

  ahead_last : std <ℤ dst → LieApart std dst ended begun
      → IsPicked std dst ended begun at (pick_ahead std dst start start_after finish n)
  ahead_last front apart =
      let one = apart.0 in
      let two = apart.1 in
      let order = no_le start finish (omega (arith, ints)) in
      by_lt_z at (ended +ℤ dst)
      (λ early. inr (
        rw (order, no_le finish n (omega (arith, ints)), no_le start n (omega (arith, ints))) refl,
        inl
            (inl early),
      ))
      (λ late.
      let since = yes_le finish n (omega (arith, ints)) in
      by_lt_z at (begun +ℤ std)
      (λ before. inl (
        rw (order, since, yes_lt n start (omega (arith, ints))) refl,
        late,
        omega (arith, ints),
        inl
            before,
      ))
      (λ past.
      let begins = yes_le start n (omega (arith, ints)) in
      by_lt_z at (begun +ℤ dst)
      (λ gap. inl (
        rw (order, since, no_lt n start (omega (arith, ints)), begins, yes_lt n start_after (omega (arith, ints))) refl,
        late,
        omega (arith, ints),
        inr gap,
      ))
      (λ after. inr (
        rw (order, since, no_lt n start (omega (arith, ints)), begins, no_lt n start_after (omega (arith, ints))) refl,
        inr (past, after),
      ))))

-- where the two offsets are one
pub level : (inner outer first second at offset : ℤ) → inner ≡ outer → offset ≡ outer
    → IsPicked inner outer first second at offset
level inner outer first second at offset same is =
    by_lt_z at (first +ℤ outer)
    (λ early. inr (is, inl (inl early)))
    (λ late. by_lt_z at (second +ℤ outer)
    (λ before. inl (is ∙ sym same, late, omega (arith, ints), inr before))
    (λ after. inr (is, inr (omega (arith, ints), after))))

-- the offset of the rule, where the changes come within the year
module _ (std dst begun ended at : ℤ) (civil : IsCivilSecond (begun +ℤ dst)) (again : IsCivilSecond (ended +ℤ std))
  where
    abbrev window : ℤ × ℤ
    window = ((begun +ℤ std) *ℤ pos 1_000_000_000, (ended +ℤ dst) *ℤ pos 1_000_000_000)

    start_after : saturating_add window.0 (ahead std dst) ≡ (begun +ℤ dst) *ℤ pos 1_000_000_000
    start_after = added window.0 (ahead std dst) (begun +ℤ dst) (omega (arith, ints)) civil

    finish_after : saturating_sub window.1 (ahead std dst) ≡ (ended +ℤ std) *ℤ pos 1_000_000_000
    finish_after = taken window.1 (ahead std dst) (ended +ℤ std) (omega (arith, ints)) again

    pub picked_first : LieApart std dst begun ended
        → IsPicked dst std begun ended at (offset_by std dst window (at *ℤ pos 1_000_000_000))
    picked_first apart = by_lt_z dst std
        (λ behind. rw (yes_lt dst std behind) (behind_first std dst begun ended at _ _ _ _ _ refl start_after refl
        finish_after refl behind apart))
        (λ above. by_lt_z std dst
        (λ front. rw (no_lt dst std above, yes_lt std dst front)
        (ahead_first std dst begun ended at _ _ _ _ _ refl start_after refl finish_after refl front apart))
        (λ below. rw (no_lt dst std above, no_lt std dst below)
        (level dst std begun ended at std (omega (arith, ints)) refl)))

    pub picked_last : LieApart std dst ended begun
        → IsPicked std dst ended begun at (offset_by std dst window (at *ℤ pos 1_000_000_000))
    picked_last apart = by_lt_z dst std
        (λ behind. rw (yes_lt dst std behind) (behind_last std dst begun ended at _ _ _ _ _ refl start_after refl
        finish_after refl behind apart))
        (λ above. by_lt_z std dst
        (λ front. rw (no_lt dst std above, yes_lt std dst front)
        (ahead_last std dst begun ended at _ _ _ _ _ refl start_after refl finish_after refl front apart))
        (λ below. rw (no_lt dst std above, no_lt std dst below)
        (level std dst ended begun at std (omega (arith, ints)) (omega (arith, ints)))))
