-- The table of a round: a line for each entrant, with the rank.
use Rattle.std.specs.Prelude.{ℕ, ℤ, ◌+◌, List, map, count_by, int_lt}
use Rattle.std.specs.List.Sorted.{IsSorted, IsPermutation}
use Rattle.std.specs.Ordering.{nat_cmp, ordering_then}
use Rattle.std.specs.declared.cmp.Ordering.{Ordering}
use Rattle.hall_policy.specs.Text.{text_cmp}
use Rattle.hall_score.specs.declared.ranking.Line.{Line}

-- 1 and the number of the greater totals
abbrev pub rank_of : List (List ℕ × ℤ) → ℤ → ℕ
rank_of totals total = 1 + count_by (λ other. int_lt total other.1) totals

-- the line of an entrant
abbrev pub line_of : List (List ℕ × ℤ) → List ℕ × ℤ → Line
line_of totals entrant = record { rank = rank_of totals entrant.1; name = entrant.0; total = entrant.1 }

-- the order of lines: by rank, then by name, byte by byte
abbrev pub line_cmp : Line → Line → Ordering
line_cmp a b = ordering_then (nat_cmp a.rank b.rank) (text_cmp a.name b.name)

-- the lines of a table: each entrant's line once, in their order
pub record IsStandings (totals : List (List ℕ × ℤ)) (lines : List Line) : Type 0 where
  pub each_once : IsPermutation (map (line_of totals) totals) lines
  pub in_order : IsSorted line_cmp lines
