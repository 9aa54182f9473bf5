-- Texts of a kind, and numbers in decimal.
use Rattle.std.proofs.Common.{◌≡◌, ◌∙◌, sym, ap, refl, rules, arith, ℕ, ◌<◌, ◌≤◌, ◌^◌, ◌&&◌, ◌||◌, not, ◌==◌, Bool}
use Rattle.std.proofs.Common.{true, List, length, get_or, Some, None, Result, decimal}
use Rattle.std.specs.Prelude.{IsTrue, nat_lt, slice_index}
use Rattle.std.specs.List.{list_all}
use Rattle.std.specs.Char.{is_ascii_digit}
use Rattle.std.specs.Str.{IsUtf8}
use Rattle.std.specs.Str.Parse.{digits_value, ParsesUnsigned}
use Rattle.std.specs.Result.{OkIff}
use Rattle.std.proofs.lemmas.Bool.{and_from, and_parts, or_cases, or_left, or_right, cases_lt, cases_Bool, eq-eqb}
use Rattle.std.proofs.lemmas.Bool.{eqb-true, leb-true, ltb-true, lt-ltb, le-ltb}
use Rattle.std.proofs.lemmas.Bool.{not_from_false, ne_eqb, eqb-false, not-true}
use Rattle.std.proofs.lemmas.List.Sums.{AllPass-from_list_all}
use Rattle.std.proofs.lemmas.Str.{IsUtf8-from_ascii}
use Rattle.std.proofs.Common.{inl, inr}
use Rattle.std.proofs.lemmas.List.{get_or_past}
use Rattle.std.proofs.lemmas.Str.Parse.{IsNumeralModel, numerals_by_value, parse_digits}
use Rattle.std.proofs.lemmas.Fmt.{decimal-digits_value, digits_decimal, digits_value-decimal, decimal_nonempty}
use Rattle.std.proofs.lemmas.Fmt.{first_decimal, decimal_digit}
use Rattle.hall_policy.specs.Text.{IsOfKind}
use Rattle.hall_http.specs.Words.{is_decimal, decimal_in}

ascii_at : (text : List ℕ) → ((k : ℕ) → k < length text → get_or text k 0 < 128) → (i : ℕ) → slice_index text i < 128
ascii_at text h i =
    elim (cases_lt i (length text)) [
      | inl inside ↦ h i inside
      | inr past ↦ rw (get_or_past text i 0 past) (omega arith)
    ]

pub kind_ascii : (least most : ℕ) (allows : ℕ → Bool) (text : List ℕ)
    → ((byte : ℕ) → IsTrue (allows byte) → byte < 128) → IsOfKind least most allows text → IsUtf8 text
kind_ascii least most allows text low h =
    IsUtf8-from_ascii text (ascii_at text (λ k inside. low _ (h.allowed k 0 inside)))

abbrev pub AreDigits : List ℕ → Type 0
AreDigits text = list_all is_ascii_digit text ≡ true

pub own : IsNumeralModel AreDigits (digits_value 10)
own = numerals_by_value AreDigits (search rules)

digit_low : (byte : ℕ) → is_ascii_digit byte ≡ true → byte < 128
digit_low byte e = let most : byte ≤ 57 = leb-true byte 57 (and_parts _ _ e).1 in omega arith

pub digits_utf8 : (text : List ℕ) → AreDigits text → IsUtf8 text
digits_utf8 text e =
    IsUtf8-from_ascii text
    (ascii_at text (λ k inside. digit_low _ (AllPass-from_list_all is_ascii_digit text e k 0 inside)))

pub decimal_some : (text : List ℕ) → is_decimal text ≡ true → 0 < length text
decimal_some text e =
    let other : length text ≡ 0 → ⊥ = eqb-false _ _ (not-true _ (and_parts _ _ (and_parts _ _ e).0).0) in omega arith

pub decimal_digits : (text : List ℕ) → is_decimal text ≡ true → AreDigits text
decimal_digits text e = (and_parts _ _ (and_parts _ _ e).0).1

pub decimal_zero : (text : List ℕ) → is_decimal text ≡ true → get_or text 0 0 ≡ 48 → length text ≡ 1
decimal_zero text e z =
    elim (or_cases _ _ (and_parts _ _ e).1) [
      | inl one ↦ eqb-true _ _ one
      | inr other ↦ absurd (eqb-false _ _ (not-true _ other) z)
    ]

-- what parses is the number, and what doesn't is none of 64 bits
pub parsed : {E : Type 0} (text : List ℕ) (r : Result ℕ E) → ParsesUnsigned 64 10 text r → is_decimal text ≡ true
    → OkIff r ((0 < length text) × (digits_value 10 text < 2 ^ 64)) (digits_value 10 text)
parsed text r h e = parse_digits own 64 text r h (decimal_digits text e)

pub reads : (text : List ℕ) → is_decimal text ≡ true → digits_value 10 text < 2 ^ 64
    → decimal_in text ≡ Some (digits_value 10 text)
reads text d s = rw (d, lt-ltb _ _ s) refl

pub reads_none : (text : List ℕ) → is_decimal text ≡ true → ((0 < length text) × (digits_value 10 text < 2 ^ 64) → ⊥)
    → decimal_in text ≡ None
reads_none text d other =
    let large : 2 ^ 64 ≤ digits_value 10 text =
    elim (cases_lt (digits_value 10 text) (2 ^ 64)) [
      | inl small ↦ absurd (other (decimal_some text d, small))
      | inr large ↦ large
    ] in
    rw (d, le-ltb _ _ large) refl

-- the number read writes the text
pub number_writes : (text : List ℕ) (n : ℕ) → decimal_in text ≡ Some n → (text ≡ decimal n) × (n < 2 ^ 64)
number_writes text n e =
    elim (cases_Bool (is_decimal text && nat_lt (digits_value 10 text) (2 ^ 64))) [
      | inl t ↦
          let (d, s) = and_parts _ _ t in
          let small = ltb-true _ _ s in
          let got : digits_value 10 text ≡ n =
          let both : Some (digits_value 10 text) ≡ Some n = sym (reads text d small) ∙ e in cc in
          let written : decimal (digits_value 10 text) ≡ text =
          decimal-digits_value own text (decimal_digits text d) (decimal_some text d) (decimal_zero text d) small in
          (sym written ∙ ap decimal got, rw got at small)
      | inr f ↦ absurd (let none = rw f at e in cc)
    ]

-- the decimal of a number is one
pub is_decimal_of : (n : ℕ) → n < 2 ^ 64 → is_decimal (decimal n) ≡ true
is_decimal_of n small =
    let some = decimal_nonempty n small in
    let begins : (length (decimal n) == 1 || not (slice_index (decimal n) 0 == 48)) ≡ true =
    elim (cases_lt n 10) [
      | inl one ↦ or_left _ _ (eq-eqb (length (decimal n)) 1 (ap length (decimal_digit n one)))
      | inr more ↦ or_right _ _
          (not_from_false _ (ne_eqb (slice_index (decimal n) 0) 48
          (λ z. let above : 48 < get_or (decimal n) 0 0 = first_decimal n (omega arith) small in absurd (omega arith))))
    ] in
    and_from _ _ (and_from _ _ (not_from_false _ (ne_eqb (length (decimal n)) 0 (λ z. absurd (omega arith))))
    (digits_decimal own n small)) begins

-- the decimal of a number reads as it
pub number_reads : (n : ℕ) → n < 2 ^ 64 → decimal_in (decimal n) ≡ Some n
number_reads n small =
    let value : digits_value 10 (decimal n) ≡ n = digits_value-decimal own n small in
    reads (decimal n) (is_decimal_of n small) (rw value small) ∙ ap (λ k. Some k) value
