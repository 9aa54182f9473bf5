-- Worked rows: what the definitions give on values.
use Rattle.std.proofs.Common.{◌≡◌, ℕ, ℤ, pos, negsuc, List, [], ◌∷◌, Option, Some, None, refl, true, map}
use Rattle.std.specs.Prelude.{codes}
use Rattle.std.specs.Fmt.{digits}
use Rattle.hall_policy.specs.declared.record.RoundRow.{RoundRow}
use Rattle.hall_policy.specs.declared.record.AnswerRow.{AnswerRow}
use Rattle.hall_policy.specs.declared.record.ProtestRow.{ProtestRow}
use Rattle.hall_policy.specs.declared.record.Ruling.{Ruling}
use Rattle.hall_policy.specs.declared.record.Ruling.TheVariants.{Upheld, Rejected}
use Rattle.hall_policy.specs.declared.record.Mode.{Mode}
use Rattle.hall_policy.specs.declared.record.Mode.TheVariants.{Instant, Sealed}
use Rattle.hall_score.specs.Total.{total_of}
use Rattle.hall_score.specs.Standings.{line_of}
use Rattle.hall_score.specs.Table.{line_bytes}

-- an hour with one puzzle of 40 points
abbrev round : Mode → RoundRow
round mode = record {
  round = record {
    id = [];
    title = [];
    start = 1777712400;
    minutes = 60;
    protest_minutes = 30;
    mode = mode;
    penalty =
        5;
    bonus = 2;
    released = true;
    published = true;
  };
  puzzles = (record { puzzle = record { author = []; label = [] }; points = 40 }) ∷ [];
  testers = [];
}

abbrev answer : ℕ → ℕ → ℕ → AnswerRow
answer n moment verdict = record {
  key = record { entrant = []; round = []; number = 1; token = [] };
  n = n;
  moment =
      moment;
  answer = [];
  verdict = verdict;
}

abbrev protest : Option Ruling → ProtestRow
protest ruling = record {
  key = record { entrant = []; round = []; token = [] };
  number = 1;
  text = [];
  ruling =
      ruling;
}

wrong_then_right : total_of (round Instant) (answer 1 1777713000 1 ∷ answer 2 1777713630 0 ∷ []) [] ≡ pos 113
wrong_then_right = refl

right_in_the_last_second : total_of (round Instant) (answer 1 1777715999 0 ∷ []) [] ≡ pos 40
right_in_the_last_second = refl

right_at_the_end : total_of (round Instant) (answer 1 1777716000 0 ∷ []) [] ≡ pos 40
right_at_the_end = refl

-- one second past the end is a minute begun, and taken off
right_after_the_end : total_of (round Instant) (answer 1 1777716001 0 ∷ []) [] ≡ pos 38
right_after_the_end = refl

sealed_wrong_then_right : total_of (round Sealed) (answer 1 1777713000 1 ∷ answer 2 1777713630 0 ∷ []) [] ≡ pos 118
sealed_wrong_then_right = refl

sealed_right_then_wrong : total_of (round Sealed) (answer 1 1777713000 0 ∷ answer 2 1777713630 1 ∷ []) [] ≡ pos 0
sealed_right_then_wrong = refl

instant_right_then_wrong : total_of (round Instant) (answer 1 1777713000 0 ∷ answer 2 1777713630 1 ∷ []) [] ≡ pos 140
instant_right_then_wrong = refl

protests_of_each_kind : total_of (round Instant) [] (protest (Some (Upheld (negsuc 6))) ∷ protest (Some Rejected)
    ∷ protest None ∷ protest (Some (Upheld (pos 2))) ∷ []) ≡ negsuc 4
protests_of_each_kind = refl

abbrev totals : List (List ℕ × ℤ)
totals = (codes "gus", negsuc 4) ∷ (codes "eve", pos 40) ∷ (codes "fay", pos 30) ∷ (codes "ana", pos 40) ∷ []

-- equal totals have one rank, and the next rank is passed over
ranked : map (λ line. line.rank) (map (line_of totals) totals) ≡ 4 ∷ 1 ∷ 3 ∷ 1 ∷ []
ranked = refl

laid_out : line_bytes (record { rank = 4; name = codes "gus"; total = negsuc 4 }) ≡ codes
    "   4 gus                            -5\n"
unfolding digits
laid_out = refl

-- what is longer than its places stands whole
longer_than_its_places : line_bytes (record { rank = 12345; name = codes "gus"; total = negsuc 122345678 }) ≡ codes
    "12345 gus                      -122345679\n"
unfolding digits
longer_than_its_places = refl

-- a name of 24 bytes, and a total that stands whole beside it
long_name : line_bytes (record { rank = 1; name = codes "an-entrant-of-24-letters"; total = pos 1000000000 }) ≡ codes
    "   1 an-entrant-of-24-letters 1000000000\n"
unfolding digits
long_name = refl
