-- The first line of an input, and what follows it.
use Rattle.std.proofs.Common.{◌≡◌, ℕ, ◌+◌, ◌<◌, ◌≤◌, Bool, true, false, cond, not, List, [], ◌∷◌, length, take, drop}
use Rattle.std.proofs.Common.{Some, None, refl, ap, ◌∙◌, arith}
use Rattle.std.specs.Prelude.{◌==◌, All}
use Rattle.std.specs.List.{slice_split, position, position_or_len, after_first}
use Rattle.std.specs.Str.Lines.{lines, lines_of_parts, strip_carriage_return}
use Rattle.std.proofs.lemmas.Bool.{ne_eqb}
use Rattle.std.proofs.lemmas.List.Splits.{slice_split_first, slice_split_none, length-slice_split}
use Rattle.std.proofs.lemmas.List.Elements.{All-nil, All-cons}
use Rattle.hall_grid.proofs.Fields.{position_at, position_past}

-- whether the byte is a line feed
abbrev pub is_line_feed : ℕ → Bool
is_line_feed byte = byte == 10

more_lines : (line : List ℕ) (parts : List (List ℕ)) → 0 < length parts
    → lines_of_parts (line ∷ parts) ≡ strip_carriage_return line ∷ lines_of_parts parts
more_lines line [] h = absurd (omega arith)
more_lines line (part ∷ parts) h = refl

-- a line with a line feed
pub line_then : (bytes : List ℕ) (at : ℕ) → position is_line_feed bytes ≡ Some at
    → lines bytes ≡ strip_carriage_return (take at bytes) ∷ lines (drop (at + 1) bytes)
line_then bytes at e =
    let p = position_at is_line_feed bytes at e in
    let few : position_or_len is_line_feed bytes < length bytes = omega arith in
    ap lines_of_parts (slice_split_first is_line_feed bytes 0 few)
    ∙ more_lines _ (slice_split is_line_feed (after_first is_line_feed bytes))
    (omega (arith, length-slice_split is_line_feed (after_first is_line_feed bytes)))
    ∙ ap (λ i. strip_carriage_return (take i bytes) ∷ lines (drop (i + 1) bytes)) p.0

first_stops : (b : Bool) (m n : ℕ) → n + 1 ≤ cond (not b) (1 + m) 0 → (b ≡ false) × (n ≤ m)
first_stops true m n h = absurd (omega arith)
first_stops false m n h = (refl, omega arith)

none_passes : (p : ℕ → Bool) (xs : List ℕ) → length xs ≤ position_or_len p xs → All (λ x. p x ≡ false) xs
none_passes p [] h = All-nil (λ x. p x ≡ false)
none_passes p (x ∷ xs) h =
    let k : length (x ∷ xs) ≤ cond (not (p x)) (1 + position_or_len p xs) 0 = h in
    let s = first_stops (p x) (position_or_len p xs) (length xs) (omega (arith, k)) in
    All-cons (λ x. p x ≡ false) x xs s.0 (none_passes p xs s.1)

one_line : (bytes : List ℕ) → 0 < length bytes → lines_of_parts (bytes ∷ []) ≡ bytes ∷ []
one_line [] h = absurd (omega arith)
one_line (byte ∷ bytes) h = rw (ne_eqb (length (byte ∷ bytes)) 0 (λ e. omega arith)) refl

-- a last line without a line feed
pub last_line : (bytes : List ℕ) → 0 < length bytes → position is_line_feed bytes ≡ None → lines bytes ≡ bytes ∷ []
last_line bytes some e =
    ap lines_of_parts (slice_split_none is_line_feed bytes
    (none_passes is_line_feed bytes (position_past is_line_feed bytes e))) ∙ one_line bytes some
