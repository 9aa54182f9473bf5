-- What is held of one entrant's answers of a round.
use Rattle.std.specs.Prelude.{◌≡◌, ◌≤◌, ◌<◌, ◌++◌, ◌⊎◌, ℕ, not, List, length, Contains, All, sum_by, count_by}
use Rattle.std.specs.List.{list_any, range_with_len}
use Rattle.hall_policy.specs.declared.record.RoundRow.{RoundRow}
use Rattle.hall_policy.specs.declared.record.AnswerRow.{AnswerRow}
use Rattle.hall_score.specs.Total.{is_right, points_for, is_solved, last_moment}
use Rattle.hall_score.specs.declared.entrant.Score.{Score}
use Rattle.hall_score.specs.declared.entrant.Tries.{Tries}
use Rattle.hall_score.specs.declared.entrant.Progress.{Progress}

-- what these answers of one entrant give: their points, how many puzzles of the round they solve, and the last moment
pub record IsScoreOf (round : RoundRow) (rows : List AnswerRow) (score : Score) : Type 0 where
  pub points : score.points ≡ sum_by (points_for round rows) rows
  pub solved : score.solved ≡ count_by (is_solved round rows) (range_with_len 1 (length round.puzzles))
  pub last : score.last ≡ last_moment round rows

-- the parts of a score
abbrev pub HasScoreParts : Score → ℕ → ℕ → ℕ → Type 0
HasScoreParts score points solved last = (score.points ≡ points) × (score.solved ≡ solved) × (score.last ≡ last)

-- these are to the same puzzle as the answer, and before it
abbrev pub AreTriedBefore : List AnswerRow → AnswerRow → Type 0
AreTriedBefore rows row = All (λ before. (before.key.number ≡ row.key.number) × (before.n < row.n)) rows

-- what is held of one entrant's answers to one puzzle
pub record AreTriesOf (round : RoundRow) (rows : List AnswerRow) (tries : Tries) : Type 0 where
  pub wrong : tries.wrong ≡ count_by (λ row. not (is_right row)) rows
  pub has_right : tries.has_right ≡ list_any is_right rows
  pub score : IsScoreOf round rows tries.score

-- what is held of one entrant's answers: those to the puzzle at hand stand apart, the other ones came before them
pub record IsProgressOf (round : RoundRow) (rows : List AnswerRow) (progress : Progress) : Type 0 where
  pub closed : List AnswerRow
  pub current : List AnswerRow
  pub whole : rows ≡ closed ++ current
  pub before : All (λ row. row.key.number < progress.number) closed
  pub here : All (λ row. row.key.number ≡ progress.number) current
  pub up_to : All (λ row. row.n ≤ progress.n) current
  pub reached : (row : AnswerRow) × Contains current row × (row.n ≡ progress.n)
  pub score : IsScoreOf round closed progress.closed
  pub tries : AreTriesOf round current progress.tries

-- the answer is to a later puzzle than the one at hand, or to this one with a greater n
abbrev pub IsAhead : Progress → AnswerRow → Type 0
IsAhead progress row =
    (progress.number < row.key.number) ⊎ ((progress.number ≡ row.key.number) × (progress.n < row.n))
