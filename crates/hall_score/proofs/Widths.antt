-- What a hole with a width writes.
use Rattle.std.proofs.Common.{arith, ◌≡◌, ◌≤◌, ◌-◌, ◌^◌, ℕ, suc, ℤ, pos, negsuc, List, [], ◌∷◌, length, true, false}
use Rattle.std.proofs.Common.{All, refl, append_assoc, IsTrue, ltb}
use Rattle.std.proofs.Padding.{take_chars_all}
use Rattle.std.proofs.Math.Nat.{sub_self}
use Rattle.std.proofs.lemmas.List.{append-nil}
use Rattle.std.proofs.lemmas.Bool.Decides.{nat_tests}
use Rattle.std.proofs.lemmas.List.Elements.{All-tail, All-head}
use Rattle.std.specs.Fmt.{decimal, signed_decimal, format_spec, padded, padded_integral, char_count, is_char_start}
use Rattle.std.specs.Fmt.{styled_text, styled_decimal, styled_signed_decimal}
use Rattle.hall_policy.specs.Text.{is_word_byte}
use Rattle.hall_score.specs.Table.{to_right, to_left}

less_none : (n : ℕ) → n - 0 ≡ n
less_none n = omega arith

-- a number at the right end of four places
pub rank_padded : (n : ℕ) → styled_decimal (format_spec 32 3 0 4 (2 ^ 64 - 1)) n ≡ to_right 4 (decimal n)
unfolding padded_integral char_count lib.Utf8.encode
rank_padded n = simp (sub_self, append-nil, less_none) refl

-- a signed number at the right end of eight places
pub total_padded : (z : ℤ) → styled_signed_decimal (format_spec 32 3 0 8 (2 ^ 64 - 1)) z ≡ to_right 8 (signed_decimal z)
unfolding padded_integral char_count lib.Utf8.encode
total_padded (pos n) =
    let plain : ltb n 0 ≡ false = grind (arith, nat_tests) in
    rw plain (simp (sub_self, append-nil, less_none) refl)
total_padded (negsuc n) =
    let sign : 8 - length (decimal (suc n)) - 1 ≡ 8 - suc (length (decimal (suc n))) = omega arith in
    simp (sub_self, append-nil, less_none, sign, append_assoc) refl

one_byte : (b : ℕ) → IsTrue (is_word_byte b) → is_char_start b ≡ true
one_byte b word = grind (arith, nat_tests)

-- a text of one-byte characters has as many characters as bytes
pub one_byte_each : (text : List ℕ) → All (λ byte. IsTrue (is_word_byte byte)) text → char_count text ≡ length text
unfolding char_count
one_byte_each [] all = refl
one_byte_each (b ∷ text) all =
    let start : is_char_start b ≡ true = one_byte b (All-head (λ x. IsTrue (is_word_byte x)) b text all) in
    let rest : char_count text ≡ length text = one_byte_each text
    (All-tail (λ x. IsTrue (is_word_byte x)) b text all) in
    rw (start, rest) (omega arith)

-- a name at the left end of 24 places
pub name_padded : (name : List ℕ) → length name ≤ 24 → All (λ byte. IsTrue (is_word_byte byte)) name
    → styled_text (format_spec 32 1 0 24 (2 ^ 64 - 1)) name ≡ to_left 24 name
unfolding padded lib.Utf8.encode
name_padded name few all = rw (
  take_chars_all (2 ^ 64 - 1) name (omega arith),
  one_byte_each name all,
  less_none
      (24 - length name),
) refl
