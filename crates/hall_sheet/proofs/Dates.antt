-- The dates of the definition are those that the calendar's crate makes.
use Rattle.std.proofs.Common.{◌≡◌, ◌∙◌, sym, refl, arith, ℕ, ◌&&◌, Bool, true, false, Some, None}
use Rattle.std.proofs.Common.{Result, Ok, Err, ℤ, pos, option_map}
use Rattle.std.specs.Prelude.{nat_le, ◌↔◌, IsOk, IfOk, IfSome}
use Rattle.std.specs.Result.{OkIff, result_ok}
use Rattle.std.proofs.lemmas.Bool.{and_from, and_parts, leb-true, le-leb, false_from_ne_true, false≢true}
use Rattle.std.proofs.lemmas.Int.{ints}
use Rattle.jiff_core.specs.declared.civil.date.Date.{Date}
use Rattle.jiff_core.specs.Calendar.{days_from_civil, days_in_month, IsDate}
use Rattle.jiff_core.specs.Date.{epoch_day, IsYmd}
use Rattle.hall_sheet.specs.Start.{day_in}

-- the number that a narrower type was given
pub converted : {E : Type 0} (P : Type 0) (r : Result ℤ E) (z v : ℤ) → OkIff r P z → Some v ≡ result_ok r → v ≡ z
converted P (Ok x) z v h e = let same : v ≡ x = cc in same ∙ h.1
converted P (Err x) z v h e = cc

abbrev pub in_year : ℕ → Bool
in_year year = nat_le year 9999

abbrev pub in_months : ℕ → Bool
in_months month = nat_le 1 month && nat_le month 12

abbrev pub in_days : ℕ → ℕ → Bool
in_days most day = nat_le 1 day && nat_le day most

abbrev pub test : ℕ → ℕ → ℕ → Bool
test year month day = in_year year && in_months month && in_days (days_in_month (pos year) month) day

passes : (year month day : ℕ) → IsDate (pos year) (pos month) (pos day) → test year month day ≡ true
passes year month day ((_, late), (first, last), (least, most)) =
    and_from (in_year year && in_months month) (in_days (days_in_month (pos year) month) day)
    (and_from (in_year year) (in_months month) (le-leb year 9999 (omega (arith, ints, late)))
    (and_from (nat_le 1 month) (nat_le month 12) (le-leb 1 month (omega (arith, ints, first)))
    (le-leb month 12 (omega (arith, ints, last)))))
    (and_from (nat_le 1 day) (nat_le day (days_in_month (pos year) month)) (le-leb 1 day (omega (arith, ints, least)))
    (le-leb day (days_in_month (pos year) month) (omega (arith, ints, most))))

pub passed : (year month day : ℕ) → test year month day ≡ true → IsDate (pos year) (pos month) (pos day)
passed year month day e =
    let (before, days) = and_parts (in_year year && in_months month) (in_days (days_in_month (pos year) month) day) e in
    let (years, months) = and_parts (in_year year) (in_months month) before in
    let (first, last) = and_parts (nat_le 1 month) (nat_le month 12) months in
    let (least, most) = and_parts (nat_le 1 day) (nat_le day (days_in_month (pos year) month)) days in
    let late = leb-true year 9999 years in
    let a = leb-true 1 month first in
    let b = leb-true month 12 last in
    let c = leb-true 1 day least in
    let d = leb-true day (days_in_month (pos year) month) most in (
      (omega (arith, ints), omega (arith, ints, late)),
      (omega (arith, ints, a), omega (arith, ints, b)),
      (omega (arith, ints, c), omega (arith, ints, d)),
    )

pub day_exists : (year month day : ℕ) (y : ℤ) (m d : ℕ) → IsDate (pos year) (pos month) (pos day)
    → y ≡ pos year → pos m ≡ pos month → pos d ≡ pos day → day_in year month day ≡ Some (days_from_civil y m d)
day_exists year month day y m d is same_year same_month same_day =
    let month_is : m ≡ month = omega (arith, ints, same_month) in
    let day_is : d ≡ day = omega (arith, ints, same_day) in
    rw (passes year month day is, same_year, month_is, day_is) refl

pub day_missing : (year month day : ℕ) → (IsDate (pos year) (pos month) (pos day) → ⊥) → day_in year month day ≡ None
day_missing year month day other =
    let fails : test year month day ≡ false =
    false_from_ne_true (test year month day) (λ e. other (passed year month day e)) in
    rw fails refl

-- the date that the calendar's crate makes, if it makes one
pub date_is : {E : Type 0} (year month day : ℕ) (r : Result Date E) → (IsOk r ↔ IsDate (pos year) (pos month) (pos day))
    → IfOk r (IsYmd (pos year) (pos month) (pos day)) → option_map epoch_day (result_ok r) ≡ day_in year month day
date_is year month day (Ok d) iff made =
    sym (day_exists year month day d.year d.month d.day (iff.0 refl) made.0 made.1 made.2)
date_is year month day (Err e) iff made = sym (day_missing year month day (λ is. false≢true (iff.1 is)))

pub year_is : {E : Type 0} (year month day : ℕ) (r : Result Date E) → IfOk r (IsYmd (pos year) (pos month) (pos day))
    → IfSome (result_ok r) (λ d. d.year ≡ pos year)
year_is year month day (Ok d) made = made.0
year_is year month day (Err e) made = tt
