-- What the rules say of points, and the laws that an entrant's total keeps.
use Rattle.std.specs.Prelude.{◌≡◌, ◌≢◌, ◌<◌, ◌≤◌, ◌-◌, ◌*◌, ◌+ℤ◌, ◌-ℤ◌, ◌*ℤ◌, ◌≤ℤ◌, ◌<ℤ◌, ◌⊎◌, ◌==◌, ◌&&◌, ℕ, ℤ, pos}
use Rattle.std.specs.Prelude.{List, [], ◌∷◌, length, Contains, AllPairs, Some, not, nat_lt, sum_by, count_by}
use Rattle.std.specs.List.{range_with_len}
use Rattle.std.specs.List.Sorted.{IsPermutation}
use Rattle.hall_policy.specs.World.{end_of, entry_at, ruling_points}
use Rattle.hall_policy.specs.declared.record.Entry.{Entry}
use Rattle.hall_policy.specs.declared.record.RoundRow.{RoundRow}
use Rattle.hall_policy.specs.declared.record.AnswerRow.{AnswerRow}
use Rattle.hall_policy.specs.declared.record.ProtestRow.{ProtestRow}
use Rattle.hall_policy.specs.declared.record.Mode.{Mode}
use Rattle.hall_policy.specs.declared.record.Mode.TheVariants.{Instant, Sealed}
use Rattle.hall_score.specs.Total.{total_of}

-- no two answers to one puzzle have one n
abbrev pub AreNumbered : List AnswerRow → Type 0
AreNumbered answers = AllPairs (λ a b. a.key.number ≡ b.key.number → a.n ≢ b.n) answers

-- an answer is right where it breaks no rule
abbrev pub IsAnswerRight : AnswerRow → Type 0
IsAnswerRight row = row.verdict ≡ 0

-- the answer is one of these, and to the puzzle of this number
pub record IsAnswerTo (number : ℕ) (answers : List AnswerRow) (row : AnswerRow) : Type 0 where
  pub given : Contains answers row
  pub puzzle : row.key.number ≡ number

-- the first right answer to the puzzle: no right answer to it has a smaller n
pub record IsFirstRight (number : ℕ) (answers : List AnswerRow) (row : AnswerRow) : Type 0 where
  pub to : IsAnswerTo number answers row
  pub right : IsAnswerRight row
  pub first : (other : AnswerRow) → IsAnswerTo number answers other → IsAnswerRight other → row.n ≤ other.n

-- the last answer to the puzzle: no answer to it has a greater n
pub record IsLast (number : ℕ) (answers : List AnswerRow) (row : AnswerRow) : Type 0 where
  pub to : IsAnswerTo number answers row
  pub last : (other : AnswerRow) → IsAnswerTo number answers other → other.n ≤ row.n

-- how many wrong answers to the puzzle have a smaller n
abbrev pub wrong_before_n : ℕ → List AnswerRow → ℕ → ℕ
wrong_before_n number answers n =
    count_by (λ row. (row.key.number == number) && (not (row.verdict == 0) && nat_lt row.n n)) answers

-- what a puzzle gives in an instant round: the first right answer counts, and gives the puzzle's points less the
-- penalty for each wrong answer before it, and never less than 0; no right answer gives 0
abbrev pub GivesInstant : ℕ → List AnswerRow → ℕ → ℕ → ℕ → Type 0
GivesInstant penalty answers number points given =
    ((row : AnswerRow) × IsFirstRight number answers row
    × (given ≡ points - wrong_before_n number answers row.n * penalty))
    ⊎ (((row : AnswerRow) → IsAnswerTo number answers row → ¬ (IsAnswerRight row)) × (given ≡ 0))

-- what a puzzle gives in a sealed round: the last answer counts, and gives the puzzle's points if it is right, and 0
-- if it is wrong; no answer gives 0
abbrev pub GivesSealed : List AnswerRow → ℕ → ℕ → ℕ → Type 0
GivesSealed answers number points given =
    ((row : AnswerRow) × IsLast number answers row × (IsAnswerRight row → given ≡ points)
    × (¬ (IsAnswerRight row) → given ≡ 0))
    ⊎ (((row : AnswerRow) → ¬ (IsAnswerTo number answers row)) × (given ≡ 0))

-- what the puzzle of this number and these points gives, by the round's mode
abbrev pub GivesPoints : Mode → ℕ → List AnswerRow → ℕ → ℕ → ℕ → Type 0
GivesPoints Instant penalty answers number points given = GivesInstant penalty answers number points given
GivesPoints Sealed penalty answers number points given = GivesSealed answers number points given

-- the answer counts for the puzzle, and is right
abbrev pub CountsAsRight : Mode → ℕ → List AnswerRow → AnswerRow → Type 0
CountsAsRight Instant number answers row = IsFirstRight number answers row
CountsAsRight Sealed number answers row = IsLast number answers row × IsAnswerRight row

-- a puzzle of the round has this number
abbrev pub IsNumberIn : RoundRow → ℕ → Type 0
IsNumberIn round number = (1 ≤ number) × (number ≤ length round.puzzles)

-- every puzzle of the round has a right answer that counts
abbrev pub IsAllSolved : RoundRow → List AnswerRow → Type 0
IsAllSolved round answers =
    (number : ℕ) → IsNumberIn round number → (row : AnswerRow) × CountsAsRight round.round.mode number answers row

-- the greatest moment of the right answers that count
pub record IsLastMoment (round : RoundRow) (answers : List AnswerRow) (moment : ℕ) : Type 0 where
  pub reached : (number : ℕ) × (row : AnswerRow) × IsNumberIn round number
      × CountsAsRight round.round.mode number answers row × (row.moment ≡ moment)
  pub greatest : (number : ℕ) (row : AnswerRow) → IsNumberIn round number →
      CountsAsRight round.round.mode number answers row → row.moment ≤ moment

-- so many whole minutes go from the moment to the end, rounded down: below 0 where the moment lies after the end
pub record AreMinutes (moment end : ℕ) (minutes : ℤ) : Type 0 where
  pub fit : (minutes *ℤ pos 60) ≤ℤ (pos end -ℤ pos moment)
  pub no_more : (pos end -ℤ pos moment) <ℤ ((minutes +ℤ pos 1) *ℤ pos 60)

-- where every puzzle is solved, each whole minute from the greatest moment of these answers to the end gives the
-- round's bonus; else there is none
abbrev pub IsBonus : RoundRow → List AnswerRow → ℤ → Type 0
IsBonus round answers bonus =
    (IsAllSolved round answers
    × ((moment : ℕ) × (minutes : ℤ) × IsLastMoment round answers moment
    × AreMinutes moment (end_of round.round) minutes × (bonus ≡ pos round.round.bonus *ℤ minutes)))
    ⊎ (¬ (IsAllSolved round answers) × (bonus ≡ pos 0))

-- the points of the upheld protests together
abbrev pub upheld_points : List ProtestRow → ℤ
upheld_points [] = pos 0
upheld_points (row ∷ rows) = ruling_points row.ruling +ℤ upheld_points rows

-- an entrant's total: what each puzzle of the round gives, once, and the bonus, and the upheld protests
pub record IsTotal (round : RoundRow) (answers : List AnswerRow) (protests : List ProtestRow) (total : ℤ) : Type 0 where
  pub given : ℕ → ℕ
  pub each : (number : ℕ) (entry : Entry) → entry_at round.puzzles number ≡ Some entry →
      GivesPoints round.round.mode round.round.penalty answers number entry.points (given number)
  pub bonus : ℤ
  pub bonus_is : IsBonus round answers bonus
  pub total_is : total ≡ pos (sum_by given (range_with_len 1 (length round.puzzles))) +ℤ bonus +ℤ upheld_points protests

-- a round has a puzzle, and no two answers to one puzzle have one n: the total is the one that the rules give
abbrev pub TotalsAreRight : Type 0
TotalsAreRight =
    (round : RoundRow) (answers : List AnswerRow) (protests : List ProtestRow) →
    0 < length round.puzzles → AreNumbered answers → IsTotal round answers protests (total_of round answers protests)

-- where no two answers to one puzzle have one n, the rules give no second total
abbrev pub TotalsAreOne : Type 0
TotalsAreOne =
    (round : RoundRow) (answers : List AnswerRow) (protests : List ProtestRow) (one other : ℤ) → AreNumbered answers →
    IsTotal round answers protests one → IsTotal round answers protests other → one ≡ other

-- the same rows in another order have the same total
abbrev pub TotalsKeepNoOrder : Type 0
TotalsKeepNoOrder =
    (round : RoundRow) (answers other_answers : List AnswerRow) (protests other_protests : List ProtestRow) →
    IsPermutation answers other_answers → IsPermutation protests other_protests →
    total_of round answers protests ≡ total_of round other_answers other_protests
