-- The totals that a round's table is made of.
use Rattle.std.specs.Prelude.{◌≡◌, ◌↔◌, ◌&&◌, ℕ, ℤ, List, Contains, AllPairs}
use Rattle.std.specs.List.{filter}
use Rattle.std.specs.FinMap.{values}
use Rattle.hall_policy.specs.World.{World, same_text, IsRoundAt}
use Rattle.hall_policy.specs.declared.record.AnswerRow.{AnswerRow}
use Rattle.hall_policy.specs.declared.record.ProtestRow.{ProtestRow}
use Rattle.hall_policy.specs.declared.record.RoundRow.{RoundRow}
use Rattle.hall_score.specs.Total.{total_of}
use Rattle.hall_score.specs.Table.{IsTable}
use Rattle.hall_store.specs.Store.{is_of}

-- the entrant's answers in the round
abbrev pub round_answers_by : World → List ℕ → List ℕ → List AnswerRow
round_answers_by world id entrant = filter (is_of entrant id) (values world.answers)

-- the entrant's protests in the round
abbrev pub round_protests_by : World → List ℕ → List ℕ → List ProtestRow
round_protests_by world id entrant =
    filter (λ row. same_text row.key.round id && same_text row.key.entrant entrant) (values world.protests)

-- the entrant has an answer in the round
abbrev pub HasAnswered : World → List ℕ → List ℕ → Type 0
HasAnswered world id entrant = (row : AnswerRow) × Contains (round_answers_by world id entrant) row

-- the entrants with an answer in the round, each once, each with the total of that entrant's rows
pub record AreTotals (world : World) (id : List ℕ) (row : RoundRow) (totals : List (List ℕ × ℤ)) : Type 0 where
  pub each_once : AllPairs (λ a b. ¬ (a.0 ≡ b.0)) totals
  pub listed : (entrant : List ℕ) →
      HasAnswered world id entrant ↔ ((total : ℤ) × Contains totals (entrant, total))
  pub right : (entrant : List ℕ) (total : ℤ) → Contains totals (entrant, total) →
      total ≡ total_of row (round_answers_by world id entrant) (round_protests_by world id entrant)

-- the text is the table of the round's totals
abbrev pub IsTableOf : World → List ℕ → RoundRow → List ℕ → Type 0
IsTableOf world id row text = (totals : List (List ℕ × ℤ)) × AreTotals world id row totals × IsTable totals text

-- the text is the table of the round that is kept under the id
abbrev pub IsTableAt : World → List ℕ → List ℕ → Type 0
IsTableAt world id text = (row : RoundRow) × IsRoundAt world id row × IsTableOf world id row text
