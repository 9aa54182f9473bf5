-- The totals of a round, and what a tally holds of the rows that it has taken.
use Rattle.std.specs.Prelude.{◌≡◌, ◌↔◌, ◌⊎◌, ◌++◌, ℕ, ℤ, List, [], ◌∷◌, length, Option, Some, None, Contains}
use Rattle.std.specs.Prelude.{AllPairs, All}
use Rattle.std.specs.List.{filter}
use Rattle.std.specs.Ordering.{nat_cmp, ordering_then}
use Rattle.std.specs.declared.cmp.Ordering.{Ordering}
use Rattle.std.specs.declared.cmp.Ordering.TheVariants.{Less, Greater}
use Rattle.hall_policy.specs.Text.{text_cmp}
use Rattle.hall_policy.specs.World.{same_text}
use Rattle.hall_policy.specs.declared.record.RoundRow.{RoundRow}
use Rattle.hall_policy.specs.declared.record.AnswerRow.{AnswerRow}
use Rattle.hall_policy.specs.declared.record.ProtestRow.{ProtestRow}
use Rattle.hall_score.specs.Total.{protest_points, total_of}
use Rattle.hall_score.specs.Progress.{IsProgressOf, IsAhead}
use Rattle.hall_score.specs.declared.entrant.Entrant.{Entrant}
use Rattle.hall_score.specs.declared.entrant.Rulings.{Rulings}
use Rattle.hall_score.specs.Rulings.{rulings_at, points_ruled, count_ruled}
use Rattle.hall_score.specs.declared.tally.Tally.{Tally}
use Rattle.hall_score.specs.declared.tally.Following.{Following}
use Rattle.hall_score.specs.declared.tally.Following.TheVariants.{Later, Next, Past}

-- the entrant's answers among these
abbrev pub answers_by : List ℕ → List AnswerRow → List AnswerRow
answers_by entrant = filter (λ row. same_text row.key.entrant entrant)

-- the entrant's protests among these
abbrev pub protests_by : List ℕ → List ProtestRow → List ProtestRow
protests_by entrant = filter (λ row. same_text row.key.entrant entrant)

-- the entrants with an answer among these, each once and in the order of names, each with the total of that entrant's
-- rows
pub record AreTotalsOf (round : RoundRow) (protests : List ProtestRow) (answers : List AnswerRow)
    (totals : List (List ℕ × ℤ)) : Type 0 where
  pub in_order : AllPairs (λ a b. text_cmp a.0 b.0 ≡ Less) totals
  pub listed : (entrant : List ℕ) →
      ((row : AnswerRow) × Contains answers row × (row.key.entrant ≡ entrant))
      ↔ ((total : ℤ) × Contains totals (entrant, total))
  pub right : (entrant : List ℕ) (total : ℤ) → Contains totals (entrant, total) →
      total ≡ total_of round (answers_by entrant answers) (protests_by entrant protests)

-- the order in which a tally takes answers: by entrant, number, then n
abbrev pub taking_cmp : AnswerRow → AnswerRow → Ordering
taking_cmp a b =
    ordering_then (text_cmp a.key.entrant b.key.entrant)
    (ordering_then (nat_cmp a.key.number b.key.number) (nat_cmp a.n b.n))

-- the answer comes after each of these
abbrev pub IsNext : List AnswerRow → AnswerRow → Type 0
IsNext answers row = All (λ before. taking_cmp before row ≡ Less) answers

-- what is known of each entrant's protests: the points of that entrant's protests, and how many there are
pub record AreRulingsOf (protests : List ProtestRow) (at : List ℕ → Option Rulings) : Type 0 where
  pub points : (entrant : List ℕ) → points_ruled (at entrant) ≡ protest_points (protests_by entrant protests)
  pub count : (entrant : List ℕ) → count_ruled (at entrant) ≡ length (protests_by entrant protests)

-- the entrant is the last one of these answers, and the ones before have their totals
pub record IsLastOf (round : RoundRow) (protests : List ProtestRow) (answers : List AnswerRow)
    (totals : List (List ℕ × ℤ)) (entrant : Entrant) : Type 0 where
  pub earlier : List AnswerRow
  pub own : List AnswerRow
  pub whole : answers ≡ earlier ++ own
  pub before : All (λ row. text_cmp row.key.entrant entrant.name ≡ Less) earlier
  pub is_own : All (λ row. row.key.entrant ≡ entrant.name) own
  pub progress : IsProgressOf round own entrant.progress
  pub totals_are : AreTotalsOf round protests earlier totals

-- these answers are the last entrant's and those of the ones before; without a last one there are none
abbrev pub AreHeld : RoundRow → List ProtestRow → List AnswerRow → List (List ℕ × ℤ) → Option Entrant → Type 0
AreHeld round protests answers totals (Some entrant) = IsLastOf round protests answers totals entrant
AreHeld round protests answers totals None = (answers ≡ []) × (totals ≡ [])

-- the tally of the round has taken these protests and then these answers
pub record IsTallyOf (round : RoundRow) (protests : List ProtestRow) (answers : List AnswerRow) (tally : Tally)
    : Type 0 where
  pub round_is : tally.round ≡ round
  pub rulings_are : AreRulingsOf protests (rulings_at tally.rulings)
  pub answers_are : AreHeld round protests answers tally.totals tally.last

-- whatever answers the tally has taken, this one comes after each of them, and the tally has now taken it too
abbrev pub TakesAnswer : Tally → AnswerRow → Tally → Type 0
TakesAnswer before row after =
    (round : RoundRow) (protests : List ProtestRow) (answers : List AnswerRow) →
    IsTallyOf round protests answers before →
    IsNext answers row × IsTallyOf round protests (answers ++ row ∷ []) after

-- whatever answers the tally has taken, this one doesn't come after each of them
abbrev pub RefusesAnswer : Tally → AnswerRow → Type 0
RefusesAnswer tally row =
    (round : RoundRow) (protests : List ProtestRow) (answers : List AnswerRow) →
    IsTallyOf round protests answers tally → ¬ (IsNext answers row)

-- the tally has taken no answer, and whatever protests it has taken, it has now taken the protest too
abbrev pub TakesProtest : Tally → ProtestRow → Tally → Type 0
TakesProtest before row after =
    (before.last ≡ None)
    × ((round : RoundRow) (protests : List ProtestRow) →
    IsTallyOf round protests [] before → IsTallyOf round (protests ++ row ∷ []) [] after)

-- the tally has taken an answer, or 4,294,967,295 protests of the entrant: whatever protests it has taken, and no
-- answers, so many of them are the entrant's
abbrev pub RefusesProtest : Tally → ProtestRow → Type 0
RefusesProtest tally row =
    (round : RoundRow) (protests : List ProtestRow) →
    IsTallyOf round protests [] tally → length (protests_by row.key.entrant protests) ≡ 4294967295

-- the answer is of an entrant after the last one
abbrev pub IsLater : Option Entrant → AnswerRow → Type 0
IsLater (Some entrant) row = text_cmp entrant.name row.key.entrant ≡ Less
IsLater None row = Unit {0}

-- the answer is the last entrant's, and comes after those that the entrant has so far
abbrev pub IsNextOf : Option Entrant → AnswerRow → Type 0
IsNextOf (Some entrant) row = (entrant.name ≡ row.key.entrant) × IsAhead entrant.progress row
IsNextOf None row = ⊥

-- the answer comes before the last entrant's answers, or not after all of them
abbrev pub IsPastOf : Option Entrant → AnswerRow → Type 0
IsPastOf (Some entrant) row =
    (text_cmp entrant.name row.key.entrant ≡ Greater)
    ⊎ ((entrant.name ≡ row.key.entrant) × (¬ (IsAhead entrant.progress row)))
IsPastOf None row = ⊥

-- how the answer follows those taken
abbrev pub IsFollowing : Option Entrant → AnswerRow → Following → Type 0
IsFollowing last row Later = IsLater last row
IsFollowing last row Next = IsNextOf last row
IsFollowing last row Past = IsPastOf last row
