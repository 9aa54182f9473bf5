-- The queries of answers, and what the statements on answers mean under the hall's tables.
use Rattle.std.proofs.Common.{◌≡◌, List, ℕ, Option, refl, pos, [], ◌∷◌}
use Rattle.sqlite_tied.specs.Compute.{everything}
use Rattle.sqlite.specs.Schema.{Schema}
use Rattle.sqlite.specs.Term.{Term, lit, col}
use Rattle.sqlite.specs.declared.types.Value.TheVariants.{Null, Text, Int}
use Rattle.sqlite.specs.Source.TheVariants.{Values}
use Rattle.sqlite.specs.Listing.{understood}
use Rattle.sqlite.specs.Command.TheVariants.{Insert}
use Rattle.sqlite.proofs.Callers.{IsPlain, command_of}
use Rattle.hall_policy.specs.declared.record.AnswerKey.{AnswerKey}
use Rattle.hall_sql.specs.Bounds.{between_params}
use Rattle.hall_sql.specs.Statements.{above, equals, up_to}
use Rattle.hall_sql.specs.Versions.{IsVersion}
use Rattle.hall_sql.specs.declared.answers.TheConstants.{ANSWER, ANSWERS_IN, ANSWERS_OF, ADD_ANSWER, ANSWERS_GIVEN}
use Rattle.hall_sql.specs.declared.answers.TheConstants.{NUMBER_TAKEN, ALL_ANSWERS, ANSWERS_BETWEEN}
use Rattle.hall_sql.specs.declared.tables.HallTable.TheVariants.{Answers}
use Rattle.hall_sql.proofs.Queries.{Computes, TableQuery, query}
use Rattle.hall_sql.proofs.Versions.{by_version}
use Rattle.hall_sql.proofs.Wordings.{Wording, hall_in}

-- entrant, number, n, token
abbrev pub listing : List ℕ
listing = 1 ∷ 3 ∷ 5 ∷ 4 ∷ []

abbrev pub answer : AnswerKey → TableQuery
answer key =
    query Answers ANSWER.now (Text key.entrant ∷ Text key.round ∷ Int (pos key.number) ∷ Text key.token ∷ [])
    (equals 1 0 ∷ equals 2 1 ∷ equals 3 2 ∷ equals 4 3 ∷ []) []

abbrev pub answers_in : List ℕ → TableQuery
answers_in round = query Answers ANSWERS_IN.now (Text round ∷ []) (equals 2 0 ∷ []) listing

abbrev pub answers_between : List ℕ → Option (List ℕ) → Option (List ℕ) → TableQuery
answers_between round after last =
    query Answers ANSWERS_BETWEEN.now (between_params round after last) (equals 2 0 ∷ above 1 1 ∷ up_to 1 2 ∷ [])
    listing

abbrev pub answers_of : List ℕ → List ℕ → TableQuery
answers_of entrant round =
    query Answers ANSWERS_OF.now (Text entrant ∷ Text round ∷ []) (equals 2 1 ∷ equals 1 0 ∷ []) listing

abbrev pub answers_given : List ℕ → List ℕ → ℕ → TableQuery
answers_given entrant round number =
    query Answers ANSWERS_GIVEN.now (Text entrant ∷ Text round ∷ Int (pos number) ∷ [])
    (equals 1 0 ∷ equals 2 1 ∷ equals 3 2 ∷ []) []

abbrev pub number_taken : List ℕ → List ℕ → ℕ → ℕ → TableQuery
number_taken entrant round number n =
    query Answers NUMBER_TAKEN.now (Text entrant ∷ Text round ∷ Int (pos number) ∷ Int (pos n) ∷ [])
    (equals 1 0 ∷ equals 2 1 ∷ equals 3 2 ∷ equals 5 3 ∷ []) []

pub answer_is : (key : AnswerKey) (u : Wording) → Computes (answer key) (hall_in u)
unfolding understood everything
answer_is key u = record { is = refl; unlisted = refl; plain = (refl, refl); whole = refl; typed = refl }

pub answers_in_is : (round : List ℕ) (u : Wording) → Computes (answers_in round) (hall_in u)
unfolding understood everything
answers_in_is round u = record { is = refl; unlisted = refl; plain = (refl, refl); whole = refl; typed = refl }

pub answers_between_is : (round : List ℕ) (after last : Option (List ℕ)) (u : Wording)
    → Computes (answers_between round after last) (hall_in u)
unfolding understood everything
answers_between_is round after last u =
    record { is = refl; unlisted = refl; plain = (refl, refl); whole = refl; typed = refl }

pub answers_of_is : (entrant round : List ℕ) (u : Wording) → Computes (answers_of entrant round) (hall_in u)
unfolding understood everything
answers_of_is entrant round u =
    record { is = refl; unlisted = refl; plain = (refl, refl); whole = refl; typed = refl }

pub answers_given_is : (entrant round : List ℕ) (number : ℕ) (u : Wording)
    → Computes (answers_given entrant round number) (hall_in u)
unfolding understood everything
answers_given_is entrant round number u =
    record { is = refl; unlisted = refl; plain = (refl, refl); whole = refl; typed = refl }

pub number_taken_is : (entrant round : List ℕ) (number n : ℕ) (u : Wording)
    → Computes (number_taken entrant round number n) (hall_in u)
unfolding understood everything
number_taken_is entrant round number n u =
    record { is = refl; unlisted = refl; plain = (refl, refl); whole = refl; typed = refl }

-- in the order of keys
abbrev pub all_answers : TableQuery
all_answers = query Answers ALL_ANSWERS.now [] [] (1 ∷ 2 ∷ 3 ∷ 4 ∷ [])

pub all_answers_are : (schema : Schema) → IsVersion schema → Computes all_answers schema
unfolding understood everything
all_answers_are =
    by_version (Computes all_answers)
    (λ u. record { is = refl; unlisted = refl; plain = (refl, refl); whole = refl; typed = refl })
    (λ u. record { is = refl; unlisted = refl; plain = (refl, refl); whole = refl; typed = refl })

-- the rowid that is chosen, and each parameter
abbrev pub added_terms : List Term
added_terms = lit Null ∷ col 0 0 ∷ col 0 1 ∷ col 0 2 ∷ col 0 3 ∷ col 0 4 ∷ col 0 5 ∷ col 0 6 ∷ col 0 7 ∷ []

pub add_answer_is : (u : Wording) → (command_of (understood (hall_in u) ADD_ANSWER.now) ≡ Insert 4
    (Values added_terms 9))
    × IsPlain (understood (hall_in u) ADD_ANSWER.now)
unfolding understood everything
add_answer_is u = (refl, (refl, refl))
