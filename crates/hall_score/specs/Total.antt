-- An entrant's points in a round: which answers count, what each gives, the bonus, and the total.
use Rattle.std.specs.Prelude.{ℕ, ℤ, pos, ◌-◌, ◌*◌, ◌+ℤ◌, ◌-ℤ◌, ◌*ℤ◌, ◌==◌, ◌&&◌, nat_lt, not, max}
use Rattle.std.specs.Prelude.{Bool, if◌then◌else◌, List, length, map, filter, fold, sum_by, count_by}
use Rattle.std.specs.Prelude.{Option, Some, None, is_some}
use Rattle.std.specs.Int.{int_div_euclid}
use Rattle.std.specs.List.{list_any, list_all, range_with_len}
use Rattle.hall_policy.specs.World.{end_of, entry_at, ruling_points}
use Rattle.hall_policy.specs.declared.record.Entry.{Entry}
use Rattle.hall_policy.specs.declared.record.RoundRow.{RoundRow}
use Rattle.hall_policy.specs.declared.record.AnswerRow.{AnswerRow}
use Rattle.hall_policy.specs.declared.record.ProtestRow.{ProtestRow}
use Rattle.hall_policy.specs.declared.record.Mode.{Mode}
use Rattle.hall_policy.specs.declared.record.Mode.TheVariants.{Instant, Sealed}

-- an answer is right where it breaks no rule
abbrev pub is_right : AnswerRow → Bool
is_right row = row.verdict == 0

-- whether two answers are to the same puzzle of their round
abbrev pub same_puzzle : AnswerRow → AnswerRow → Bool
same_puzzle a b = a.key.number == b.key.number

-- whether a right answer to the same puzzle came before
abbrev pub has_right_before : List AnswerRow → AnswerRow → Bool
has_right_before rows row =
    list_any (λ other. same_puzzle other row && (is_right other && nat_lt other.n row.n)) rows

-- whether an answer to the same puzzle came later
abbrev pub has_later : List AnswerRow → AnswerRow → Bool
has_later rows row = list_any (λ other. same_puzzle other row && nat_lt row.n other.n) rows

-- the answer that counts for its puzzle: in an instant round the first right one, in a sealed round the last one
abbrev pub does_count : Mode → List AnswerRow → AnswerRow → Bool
does_count Instant rows row = is_right row && not (has_right_before rows row)
does_count Sealed rows row = not (has_later rows row)

-- the wrong answers to the same puzzle that came before
abbrev pub wrong_before : List AnswerRow → AnswerRow → ℕ
wrong_before rows row =
    count_by (λ other. same_puzzle other row && (not (is_right other) && nat_lt other.n row.n)) rows

-- what the wrong answers before cost: in an instant round the penalty for each, in a sealed round nothing
abbrev pub cost_of : RoundRow → Mode → List AnswerRow → AnswerRow → ℕ
cost_of round Instant rows row = wrong_before rows row * round.round.penalty
cost_of round Sealed rows row = 0

-- the points of an entry, and none where there is no entry
abbrev pub points_of : Option Entry → ℕ
points_of (Some entry) = entry.points
points_of None = 0

-- whether the row is the answer that counts for a puzzle of the round, and is right
abbrev pub does_score : RoundRow → List AnswerRow → AnswerRow → Bool
does_score round rows row =
    is_some (entry_at round.puzzles row.key.number) && (does_count round.round.mode rows row && is_right row)

-- what a row gives: the puzzle's points less the cost, never below 0, where it scores
abbrev pub points_for : RoundRow → List AnswerRow → AnswerRow → ℕ
points_for round rows row =
    if does_score round rows row
    then points_of (entry_at round.puzzles row.key.number) - cost_of round round.round.mode rows row
    else 0

-- whether an answer to the puzzle of this number scores
abbrev pub is_solved : RoundRow → List AnswerRow → ℕ → Bool
is_solved round rows number = list_any (λ row. (row.key.number == number) && does_score round rows row) rows

-- whether each puzzle of the round is solved
abbrev pub are_all_solved : RoundRow → List AnswerRow → Bool
are_all_solved round rows = list_all (is_solved round rows) (range_with_len 1 (length round.puzzles))

-- the greatest moment of the answers that score
abbrev pub last_moment : RoundRow → List AnswerRow → ℕ
last_moment round rows = fold max 0 (map (λ row. row.moment) (filter (does_score round rows) rows))

-- the whole minutes from the moment to the end, rounded down also where the moment lies after the end
abbrev pub minutes_left : RoundRow → ℕ → ℤ
minutes_left round moment = int_div_euclid (pos (end_of round.round) -ℤ pos moment) (pos 60)

-- where each puzzle is solved, the bonus for each minute that is left from the last moment on
abbrev pub bonus_of : RoundRow → List AnswerRow → ℤ
bonus_of round rows =
    if are_all_solved round rows then pos round.round.bonus *ℤ minutes_left round (last_moment round rows) else pos 0

-- what an entrant's answers of the round give, the bonus included; where no two answers to one puzzle have one n, at
-- most one of them counts, so that the sum over the answers is one over the puzzles
abbrev pub answer_points : RoundRow → List AnswerRow → ℤ
answer_points round answers = pos (sum_by (points_for round answers) answers) +ℤ bonus_of round answers

-- the sum of the points of the upheld protests
abbrev pub protest_points : List ProtestRow → ℤ
protest_points rows = fold (λ sum row. sum +ℤ ruling_points row.ruling) (pos 0) rows

-- an entrant's total, from that entrant's rows of the round
abbrev pub total_of : RoundRow → List AnswerRow → List ProtestRow → ℤ
total_of round answers protests =
    answer_points round answers +ℤ protest_points protests
