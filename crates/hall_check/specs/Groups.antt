-- By what answers and protests are counted.
use Rattle.std.specs.Prelude.{List, map}
use Rattle.std.specs.Borrow.{Bor}
use Rattle.std.specs.List.Sorted.{IsPermutation, IsSortedBy}
use Rattle.std.specs.Ordering.{is_lt, nat_cmp, ordering_then}
use Rattle.std.specs.declared.cmp.Ordering.{Ordering}
use Rattle.hall_policy.specs.Text.{text_cmp}
use Rattle.hall_policy.specs.declared.record.AnswerRow.{AnswerRow}
use Rattle.hall_policy.specs.declared.record.ProtestRow.{ProtestRow}
use Rattle.hall_check.specs.declared.counting_keys.InRound.{InRound}

-- answers by entrant, round, then number
abbrev pub to_puzzle_cmp : AnswerRow → AnswerRow → Ordering
to_puzzle_cmp a b =
    ordering_then (text_cmp a.key.entrant b.key.entrant)
    (ordering_then (text_cmp a.key.round b.key.round) (nat_cmp a.key.number b.key.number))

-- and of one entrant's to one puzzle by n
abbrev pub with_number_cmp : AnswerRow → AnswerRow → Ordering
with_number_cmp a b = ordering_then (to_puzzle_cmp a b) (nat_cmp a.n b.n)

-- the answers, in that order
pub record AreRanked (answers : List AnswerRow) (ranked : List (Bor AnswerRow)) : Type 0 where
  pub moved : IsPermutation answers (map (λ row. row.now) ranked)
  pub sorted : IsSortedBy (λ a b. is_lt (with_number_cmp a.now b.now)) ranked

-- whose protest in which round
abbrev pub in_round : ProtestRow → InRound
in_round row = record { entrant = row.key.entrant; round = row.key.round }

-- by entrant, then round
abbrev pub in_round_cmp : InRound → InRound → Ordering
in_round_cmp a b = ordering_then (text_cmp a.entrant b.entrant) (text_cmp a.round b.round)
