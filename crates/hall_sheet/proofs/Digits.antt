-- The number that a few digits write is small.
use Rattle.std.proofs.Common.{◌≡◌, ℕ, zero, suc, ◌+◌, ◌*◌, ◌-◌, ◌^◌, ◌<◌, ◌≤◌, List, length, take, get_or, true, arith}
use Rattle.std.proofs.Common.{refl, length-take, lit≤}
use Rattle.std.specs.List.{list_all}
use Rattle.std.specs.Char.{is_ascii_digit, digit_value}
use Rattle.std.specs.Str.Parse.{digits_value, AllDigits}
use Rattle.std.proofs.lemmas.List.Sums.{AllPass-from_list_all}
use Rattle.std.proofs.lemmas.Int.Digits.{digits_value-lt, digits_value_more}

power_small : (n : ℕ) → n ≤ 3 → 10 ^ n ≤ 1000
power_small zero h = lit≤ tt
power_small (suc zero) h = lit≤ tt
power_small (suc (suc zero)) h = lit≤ tt
power_small (suc (suc (suc zero))) h = lit≤ tt
power_small (suc (suc (suc (suc n)))) h = absurd (omega arith)

-- the digits before one of at most four write a number below a thousand
pub value_small : (text : List ℕ) (i : ℕ) → AllDigits 10 (take i text) → i < length text → length text ≤ 4
    → digits_value 10 (take i text) < 1000
value_small text i digits below short =
    let few : length (take i text) ≤ 3 = simp length-take (omega arith) in
    omega (arith, digits_value-lt 10 (take i text) digits, power_small (length (take i text)) few)

-- a byte among digits
pub record IsDigit (byte : ℕ) : Type 0 where
  pub least : 48 ≤ byte
  pub most : byte ≤ 57
  pub value : digit_value byte ≡ byte - 48

digit_is : (byte : ℕ) → is_ascii_digit byte ≡ true → IsDigit byte
digit_is byte h = record { least = grind arith; most = grind arith; value = grind arith }

pub digit_at : (text : List ℕ) (i : ℕ) → list_all is_ascii_digit text ≡ true → i < length text
    → IsDigit (get_or text i 0)
digit_at text i all within = digit_is (get_or text i 0) (AllPass-from_list_all is_ascii_digit text all i 0 within)

pub value_more : (text : List ℕ) (i v : ℕ) → i < length text → v ≡ digits_value 10 (take i text)
    → IsDigit (get_or text i 0) → v * 10 + (get_or text i 0 - 48) ≡ digits_value 10 (take (i + 1) text)
value_more text i v h is digit = rw (digits_value_more 10 text i h, is, digit.value) refl
