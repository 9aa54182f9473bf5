-- How many answers an entrant gave to a puzzle, whether one of them is the n-th, and whether a round has any.
use Rattle.std.proofs.Common.{◌≡◌, ◌==◌, ◌↔◌, ◌&&◌, inr, ℕ, pos, List, [], ◌∷◌, length, map, flat_map, option_to_list}
use Rattle.std.proofs.Common.{Bool, true, not, IsTrue, Some, Contains, ap, ap₂, subst, ◌∙◌, arith}
use Rattle.std.proofs.lemmas.Bool.Decides.{nat_tests}
use Rattle.std.specs.List.Sorted.{IsPermutation}
use Rattle.std.specs.FinMap.{get, values}
use Rattle.sqlite.specs.declared.types.Value.TheVariants.{Int, Text}
use Rattle.sqlite.specs.Effect.{IsDatabase}
use Rattle.sqlite.specs.Order.{Row}
use Rattle.sqlite.specs.State.{State, Shown}
use Rattle.sqlite.specs.Tree.{Trees}
use Rattle.sqlite_value.specs.Order.{column}
use Rattle.hall_policy.specs.Rules.{answers_given}
use Rattle.hall_policy.specs.World.{same_text}
use Rattle.hall_policy.specs.declared.record.AnswerKey.{AnswerKey}
use Rattle.hall_policy.specs.declared.record.AnswerRow.{AnswerRow}
use Rattle.hall_policy.proofs.Maps.{value_of_get}
use Rattle.hall_policy.proofs.Orders.{answer_total, same_answer_keys}
use Rattle.hall_store.proofs.Tests.{and_both}
use Rattle.hall_policy.proofs.Texts.{text_decides, and_first, and_second}
use Rattle.hall_store.specs.Store.{IsListing, IsNumberTaken, HasSubmitted, is_of}
use Rattle.hall_sql.specs.Tables.{IsHallSchema}
use Rattle.hall_sql.proofs.Wordings.{Wording, hall_in, worded}
use Rattle.hall_sql.specs.Rows.{answer_in, answer_of_row, world_of}
use Rattle.hall_sql.specs.Standing.{AreKeyed}
use Rattle.hall_sql.specs.declared.answers.TheConstants.{ANSWERS_GIVEN, NUMBER_TAKEN}
use Rattle.hall_sql.proofs.AmongLemmas.{kept_value, counted, one_passes, any_there, any_is}
use Rattle.hall_sql.proofs.AnswerLemmas.{has_columns, answers_listed}
use Rattle.hall_sql.proofs.AnswerTexts as queries
use Rattle.hall_sql.proofs.ColumnLemmas.{and_true, column_same, column_counts}
use Rattle.hall_sql.proofs.ListedLemmas.{records_asked}
use Rattle.hall_sql.proofs.Queries.{passes}
use Rattle.hall_sql.proofs.UniqueLemmas.{kept_keyed}

-- the answer is the entrant's to the round's puzzle of the number
abbrev is_to : List ℕ → List ℕ → ℕ → AnswerRow → Bool
is_to entrant round number row =
    same_text row.key.entrant entrant && (same_text row.key.round round && (row.key.number == number))

-- and the n-th
abbrev is_nth : List ℕ → List ℕ → ℕ → ℕ → AnswerRow → Bool
is_nth entrant round number n row =
    same_text row.key.entrant entrant && (same_text row.key.round round && ((row.key.number == number) && (row.n == n)))

same_number : (m n : ℕ) → (m == n) ≡ true → m ≡ n
same_number m n e = grind (arith, nat_tests)

is_same : (n : ℕ) → (n == n) ≡ true
is_same n = grind (arith, nat_tests)

-- an answer of the world, and the value that it is
module _ (db : Trees) where
  abbrev answers : List AnswerRow
  answers = values (world_of db).answers

  answer_kept : (row : AnswerRow) → Contains answers row → get (world_of db).answers row.key ≡ Some row
  answer_kept = kept_value answer_total same_answer_keys (λ (row : AnswerRow). row.key) answer_of_row (db 9)

  answer_keyed : (key : AnswerKey) (row : AnswerRow) → get (world_of db).answers key ≡ Some row → row.key ≡ key
  answer_keyed = kept_keyed answer_total same_answer_keys (λ (row : AnswerRow). row.key) answer_of_row (db 9)

  -- one passes exactly where a number is taken
  module _ (entrant round : List ℕ) (number n : ℕ) where
    abbrev key_with : List ℕ → AnswerKey
    key_with token = record { entrant = entrant; round = round; number = number; token = token }

    passes_taken : (row : AnswerRow) → Contains answers row → is_nth entrant round number n row ≡ true
        → IsNumberTaken (world_of db) entrant round number n
    passes_taken row among passes =
        let second = and_second (same_text row.key.entrant entrant) _ passes in
        let third = and_second (same_text row.key.round round) _ second in
        let by : row.key.entrant ≡ entrant = (text_decides row.key.entrant entrant).0 (and_first _ _ passes) in
        let at : row.key.round ≡ round = (text_decides row.key.round round).0 (and_first _ _ second) in
        let to : row.key.number ≡ number = same_number row.key.number number (and_first _ _ third) in
        let own : row.key ≡ key_with row.key.token =
        λ i. record { entrant = by i; round = at i; number = to i; token = row.key.token } in (
          row.key.token,
          row,
          subst (λ (k : AnswerKey). get (world_of db).answers k ≡ Some row) own (answer_kept row among),
          same_number row.n n (and_second (row.key.number == number) _ third),
        )

    taken_passes : (taken : IsNumberTaken (world_of db) entrant round number n)
        → Contains answers taken.1 × (is_nth entrant round number n taken.1 ≡ true)
    taken_passes taken =
        let row = taken.1 in
        let key = answer_keyed (key_with taken.0) row taken.2 in
        let by = (text_decides row.key.entrant entrant).1 (ap (λ (k : AnswerKey). k.entrant) key) in
        let at = (text_decides row.key.round round).1 (ap (λ (k : AnswerKey). k.round) key) in
        let to : (row.key.number == number) ≡ true = ap (λ (k : AnswerKey). k.number == number) key ∙ is_same number in
        let nth : (row.n == n) ≡ true = ap (λ m. m == n) taken.3 ∙ is_same n in (
          value_of_get (world_of db).answers (key_with taken.0) row taken.2,
          and_both _ _ by (and_both _ _ at (and_both _ _ to nth)),
        )

  -- a listing of an entrant's answers in a round has any where the entrant has one
  submitted : (entrant round : List ℕ) (row : AnswerRow) → Contains answers row → is_of entrant round row ≡ true
      → HasSubmitted (world_of db) entrant round
  submitted entrant round row among passes =
      let at : row.key.round ≡ round = (text_decides row.key.round round).0 (and_first _ _ passes) in
      let by : row.key.entrant ≡ entrant =
      (text_decides row.key.entrant entrant).0 (and_second (same_text row.key.round round) _ passes) in
      let own : row.key ≡ (let k : AnswerKey = record {
        entrant = entrant;
        round = round;
        number = row.key.number;
        token = row.key.token;
      } in k) =
      λ i. record { entrant = by i; round = at i; number = row.key.number; token = row.key.token } in (
        row.key.number,
        row.key.token,
        row,
        subst (λ (k : AnswerKey). get (world_of db).answers k ≡ Some row) own (answer_kept row among),
      )

  submission : (entrant round : List ℕ) (has : HasSubmitted (world_of db) entrant round)
      → Contains answers has.2 × (is_of entrant round has.2 ≡ true)
  submission entrant round has =
      let row = has.2 in
      let asked : AnswerKey = record { entrant = entrant; round = round; number = has.0; token = has.1 } in
      let key = answer_keyed asked row has.3 in (
        value_of_get (world_of db).answers asked row has.3,
        and_both _ _ ((text_decides row.key.round round).1 (ap (λ (k : AnswerKey). k.round) key))
            ((text_decides row.key.entrant entrant).1 (ap (λ (k : AnswerKey). k.entrant) key)),
      )

  -- so the listing tells whether the entrant has an answer in the round
  pub listing_tells : (entrant round : List ℕ) (rows : List AnswerRow) (empty : Bool) → empty ≡ (length rows == 0)
      → IsListing (world_of db) (is_of entrant round) rows → IsTrue (not empty)
      ↔ HasSubmitted (world_of db) entrant round
  listing_tells entrant round rows empty is listing =
      any_is (length rows) empty _ is
      (λ some. let one = one_passes (is_of entrant round) answers rows listing.whole some in
      submitted entrant round one.0 one.1 one.2)
      (λ has. let there = submission entrant round has in
      any_there (is_of entrant round) answers rows listing.whole has.2 there.0 there.1)

-- what a query gives of the world's answers
module _ (old new : State) (has : IsHallSchema old.now.schema) (keyed : AreKeyed (old.now.trees 9))
    (sound : IsDatabase old.now)
    (rows : List Row) (out : List AnswerRow) (is : map answer_in rows ≡ map Some out) where
  said : (u : Wording) × (old.now.schema ≡ hall_in u)
  said = worded old.now.schema has

  whole : IsPermutation (flat_map (λ r. option_to_list (answer_of_row r)) (old.now.trees 9))
      (values (world_of old.now.trees).answers)
  whole =
      let db = old.now.trees in
      answers_listed {schema = old.now.schema} (inr has) db keyed sound

  to_agrees : (entrant round : List ℕ) (number : ℕ) (r : Row) (x : AnswerRow) → answer_of_row r ≡ Some x
      → passes (queries.answers_given entrant round number) r ≡ is_to entrant round number x
  to_agrees entrant round number r x h =
      let it = has_columns r x h in
      ap₂ ◌&&◌ (column_same (column r 1) x.key.entrant entrant it.entrant)
      (ap₂ ◌&&◌ (column_same (column r 2) x.key.round round it.round)
      (and_true _ ∙ column_counts (column r 3) x.key.number number it.number))

  pub answers_counted : (entrant round : List ℕ) (number : ℕ)
      → Shown ANSWERS_GIVEN.now (Text entrant ∷ Text round ∷ Int (pos number) ∷ []) old new rows
      → length out ≡ answers_given (world_of old.now.trees) entrant round number
  answers_counted entrant round number shown =
      counted (is_to entrant round number) (values (world_of old.now.trees).answers) out
      (records_asked (queries.answers_given_is entrant round number said.0) old new rows out said.1 shown is
      (is_to entrant round number) (to_agrees entrant round number) _ whole)

  nth_agrees : (entrant round : List ℕ) (number n : ℕ) (r : Row) (x : AnswerRow) → answer_of_row r ≡ Some x
      → passes (queries.number_taken entrant round number n) r ≡ is_nth entrant round number n x
  nth_agrees entrant round number n r x h =
      let it = has_columns r x h in
      ap₂ ◌&&◌ (column_same (column r 1) x.key.entrant entrant it.entrant)
      (ap₂ ◌&&◌ (column_same (column r 2) x.key.round round it.round)
      (ap₂ ◌&&◌ (column_counts (column r 3) x.key.number number it.number)
      (and_true _ ∙ column_counts (column r 5) x.n n it.n)))

  pub number_told : (entrant round : List ℕ) (number n : ℕ) (empty : Bool) → empty ≡ (length out == 0)
      → Shown NUMBER_TAKEN.now (Text entrant ∷ Text round ∷ Int (pos number) ∷ Int (pos n) ∷ []) old new rows
      → IsTrue (not empty) ↔ IsNumberTaken (world_of old.now.trees) entrant round number n
  number_told entrant round number n empty none shown =
      let db = old.now.trees in
      let test = is_nth entrant round number n in
      let same = records_asked (queries.number_taken_is entrant round number n said.0) old new rows out said.1 shown is
      test (nth_agrees entrant round number n) (values (world_of db).answers) whole in
      any_is (length out) empty _ none
      (λ some. let one = one_passes test (answers db) out same some in passes_taken db entrant round number n one.0
      one.1 one.2)
      (λ taken. let there = taken_passes db entrant round number n taken in
      any_there test (answers db) out same taken.1 there.0 there.1)
