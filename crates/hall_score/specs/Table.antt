-- The bytes of a table.
use Rattle.std.specs.Prelude.{◌≡◌, ℕ, ℤ, ◌-◌, ◌++◌, List, [], ◌∷◌, length, flat_map}
use Rattle.std.specs.List.{repeat}
use Rattle.std.specs.Fmt.{decimal, signed_decimal}
use Rattle.hall_score.specs.declared.ranking.Line.{Line}
use Rattle.hall_score.specs.Standings.{IsStandings}

-- so many spaces
abbrev pub spaces : ℕ → List ℕ
spaces n = repeat n (32 ∷ [])

-- the text at the right end of so many places; a longer one stands whole
abbrev pub to_right : ℕ → List ℕ → List ℕ
to_right width text = spaces (width - length text) ++ text

-- the text at the left end of so many places; a longer one stands whole
abbrev pub to_left : ℕ → List ℕ → List ℕ
to_left width text = text ++ spaces (width - length text)

-- a line: the rank right in 4 places, a space, the name left in 24, a space, the total right in 8, a line feed
abbrev pub line_bytes : Line → List ℕ
line_bytes line =
    to_right 4 (decimal line.rank)
    ++ (32 ∷ (to_left 24 line.name ++ (32 ∷ (to_right 8 (signed_decimal line.total) ++ (10 ∷ [])))))

-- the bytes of the table of these totals
abbrev pub IsTable : List (List ℕ × ℤ) → List ℕ → Type 0
IsTable totals bytes = (lines : List Line) × IsStandings totals lines × (bytes ≡ flat_map line_bytes lines)
