-- The moment of a start, from its parts.
use Rattle.std.proofs.Common.{◌≡◌, refl, arith, ℕ, ◌<◌, ◌==◌, false, List, length, take, drop}
use Rattle.std.proofs.Common.{length-take, Some, None, Result, Ok, Err, ℤ, ◌-ℤ◌}
use Rattle.std.specs.Prelude.{codes}
use Rattle.std.proofs.lemmas.Bool.{ne_eqb}
use Rattle.jiff_core.specs.declared.civil.datetime.DateTime.{DateTime}
use Rattle.jiff_core.specs.DateTime.{civil_seconds}
use Rattle.hall_policy.specs.Limits.{last_second}
use Rattle.hall_policy.specs.Reading.{or_fault}
use Rattle.hall_sheet.specs.declared.fault.Field.TheVariants as field
use Rattle.hall_sheet.specs.declared.fault.SheetFault.{SheetFault}
use Rattle.hall_sheet.specs.declared.fault.Refusal.TheVariants as refusal
use Rattle.hall_sheet.specs.Given.{Gives}
use Rattle.hall_sheet.specs.Table.{in_range}
use Rattle.hall_sheet.specs.Civil.{Civil, seconds_to, civil_seen}
use Rattle.hall_sheet.specs.Start.{civil_in, offset_in, start_in}

pub seconds_are : (dt : DateTime) (offset : ℤ) → civil_seconds dt -ℤ offset ≡ seconds_to (civil_seen dt) offset
unfolding civil_seconds
seconds_are dt offset = refl

-- too few bytes for a civil time
pub start_short : (text : List ℕ) → length text < 19 → start_in text ≡ Err refusal.Start
start_short text short =
    let other : (length (take 19 text) == length (codes "0000-00-00T00:00:00")) ≡ false =
    ne_eqb (length (take 19 text)) 19 (λ e. absurd (omega (arith, e, short, length-take 19 text))) in
    rw other refl

-- a civil time and an offset
pub start_of_parts : (text front back : List ℕ) (civil : Civil) (offset z : ℤ) (r : Result ℕ SheetFault)
    → front ≡ take 19 text → back ≡ drop 19 text → or_fault refusal.Start (civil_in front) ≡ Ok civil
    → offset_in back ≡ Some offset → z ≡ seconds_to civil offset
    → Gives (λ n. n) r (in_range field.Start 0 last_second z) → Gives (λ n. n) r (start_in text)
start_of_parts text front back civil offset z r first last shown east sum given =
    rw (← first, ← last, shown, east, ← sum) given

-- a civil time, and what is no offset
pub no_offset : (text front back : List ℕ) (civil : Civil) → front ≡ take 19 text → back ≡ drop 19 text
    → or_fault refusal.Start (civil_in front) ≡ Ok civil → offset_in back ≡ None → start_in text ≡ Err refusal.Start
no_offset text front back civil first last shown none = rw (← first, ← last, shown, none) refl
