-- Texts of bytes: cut at a byte, without a front, and numbers in decimal.
use Rattle.std.specs.Prelude.{ℕ, ◌+◌, ◌^◌, ◌==◌, ◌&&◌, ◌||◌, not, Bool, List, length, take, drop, slice_index, nat_eq}
use Rattle.std.specs.Prelude.{nat_lt, if◌then◌else◌, Option, Some, None, option_map}
use Rattle.std.specs.List.{list_all, position, starts_with}
use Rattle.std.specs.Char.{is_ascii_digit}
use Rattle.std.specs.Str.Parse.{digits_value}

-- what stands before the first such byte, and what after it
abbrev pub cut : ℕ → List ℕ → Option (List ℕ × List ℕ)
cut mark text = option_map (λ place. (take place text, drop (place + 1) text)) (position (λ byte. byte == mark) text)

-- what follows this front
abbrev pub after_front : List ℕ → List ℕ → Option (List ℕ)
after_front front text = if starts_with nat_eq text front then Some (drop (length front) text) else None

-- digits, with no 0 before another one
abbrev pub is_decimal : List ℕ → Bool
is_decimal text =
    not (length text == 0) && list_all is_ascii_digit text && (length text == 1 || not (slice_index text 0 == 48))

-- the number of 64 bits that the text writes in decimal
abbrev pub decimal_in : List ℕ → Option ℕ
decimal_in text =
    if is_decimal text && nat_lt (digits_value 10 text) (2 ^ 64) then Some (digits_value 10 text) else None
