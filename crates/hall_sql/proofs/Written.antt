-- The statements that write, and the queries that look before, are whole over the hall's tables.
use Rattle.std.proofs.Common.{◌≡◌, ℕ, List, [], ◌∷◌, true, Option, refl}
use Rattle.sqlite_tied.specs.Compute.{everything}
use Rattle.sqlite.specs.Term.{col}
use Rattle.sqlite.specs.Listing.{understood}
use Rattle.sqlite.specs.declared.types.Value.TheVariants.{Text}
use Rattle.hall_policy.specs.declared.record.AnswerRow.{AnswerRow}
use Rattle.hall_policy.specs.declared.record.Entry.{Entry}
use Rattle.hall_policy.specs.declared.record.Person.{Person}
use Rattle.hall_policy.specs.declared.record.ProtestKey.{ProtestKey}
use Rattle.hall_policy.specs.declared.record.ProtestRow.{ProtestRow}
use Rattle.hall_policy.specs.declared.record.PuzzleRow.{PuzzleRow}
use Rattle.hall_policy.specs.declared.record.Round.{Round}
use Rattle.hall_policy.specs.declared.record.Ruling.{Ruling}
use Rattle.hall_sql.specs.Asked.{IsAsked, IsAskedIn, is_whole}
use Rattle.hall_sql.specs.Columns.{answer_params, person_params, protest_params, puzzle_params, ruling_params}
use Rattle.hall_sql.specs.RoundColumns.{head_params, place_params, tester_params}
use Rattle.hall_sql.specs.declared.people.TheConstants.{ADD_PERSON}
use Rattle.hall_sql.specs.declared.puzzles.TheConstants.{ADD_PUZZLE, LOOK_PUZZLE, REPLACE_PUZZLE}
use Rattle.hall_sql.specs.declared.round_writes.TheConstants.{ADD_HEAD, ADD_PLACE, DROP_PLACES, LOOK_HEAD, REPLACE_HEAD}
use Rattle.hall_sql.specs.declared.answers.TheConstants.{ADD_ANSWER}
use Rattle.hall_sql.specs.declared.protests.TheConstants.{ADD_PROTEST, RULE_PROTEST}
use Rattle.hall_sql.specs.declared.testers.TheConstants.{ADD_TESTER, DROP_TESTERS}
use Rattle.hall_sql.specs.WriteCause.{IsWritten, IsWrittenIn}
use Rattle.hall_sql.proofs.AnswerTexts.{add_answer_is}
use Rattle.hall_sql.proofs.AskedLemmas.{asked}
use Rattle.hall_sql.proofs.HeadTexts.{add_head_is, id_terms, look_head_is, replace_head_is}
use Rattle.hall_sql.proofs.PeopleTexts.{add_person_is}
use Rattle.hall_sql.proofs.PlaceTexts.{add_place_is, drop_places_is}
use Rattle.hall_sql.proofs.TesterTexts.{add_tester_is, drop_testers_is}
use Rattle.hall_sql.proofs.ProtestTexts.{add_protest_is, rule_protest_is}
use Rattle.hall_sql.proofs.PuzzleTexts.{add_puzzle_is, key_terms, look_puzzle_is, replace_puzzle_is}
use Rattle.hall_sql.proofs.WriteCauseLemmas.{written}
use Rattle.hall_sql.proofs.Wordings.{Wording, by_hall, hall_in}

pub add_answer_whole : (u : Wording) → is_whole ADD_ANSWER.now 8 (understood (hall_in u) ADD_ANSWER.now) ≡ true
unfolding understood everything
add_answer_whole u = refl

pub add_answer_written : (row : AnswerRow) → IsWritten ADD_ANSWER.now (answer_params row)
add_answer_written row = by_hall (IsWrittenIn ADD_ANSWER.now (answer_params row))
    (λ u. written ADD_ANSWER.now (answer_params row) _ (add_answer_is u).0 tt (add_answer_is u).1 (add_answer_whole u))

pub add_protest_whole : (u : Wording) → is_whole ADD_PROTEST.now 7 (understood (hall_in u) ADD_PROTEST.now) ≡ true
unfolding understood everything
add_protest_whole u = refl

pub add_protest_written : (row : ProtestRow) → IsWritten ADD_PROTEST.now (protest_params row)
add_protest_written row = by_hall (IsWrittenIn ADD_PROTEST.now (protest_params row))
    (λ u. written ADD_PROTEST.now (protest_params row) _ (add_protest_is u).0 tt (add_protest_is u).1
    (add_protest_whole u))

pub rule_protest_whole : (u : Wording) → is_whole RULE_PROTEST.now 5 (understood (hall_in u) RULE_PROTEST.now) ≡ true
unfolding understood everything
rule_protest_whole u = refl

pub rule_protest_written : (key : ProtestKey) (ruling : Option Ruling)
    → IsWritten RULE_PROTEST.now (ruling_params key ruling)
rule_protest_written key ruling = by_hall (IsWrittenIn RULE_PROTEST.now (ruling_params key ruling))
    (λ u. written RULE_PROTEST.now (ruling_params key ruling) _ (rule_protest_is u).0 tt (rule_protest_is u).1
    (rule_protest_whole u))

pub add_puzzle_whole : (u : Wording) → is_whole ADD_PUZZLE.now 5 (understood (hall_in u) ADD_PUZZLE.now) ≡ true
unfolding understood everything
add_puzzle_whole u = refl

pub add_puzzle_written : (text : List ℕ) (row : PuzzleRow) → IsWritten ADD_PUZZLE.now (puzzle_params text row)
add_puzzle_written text row = by_hall (IsWrittenIn ADD_PUZZLE.now (puzzle_params text row))
    (λ u. written ADD_PUZZLE.now (puzzle_params text row) _ (add_puzzle_is u).0 tt (add_puzzle_is u).1
    (add_puzzle_whole u))

pub replace_puzzle_whole : (u : Wording) → is_whole REPLACE_PUZZLE.now 5 (understood (hall_in u) REPLACE_PUZZLE.now) ≡
    true
unfolding understood everything
replace_puzzle_whole u = refl

pub replace_puzzle_written : (text : List ℕ) (row : PuzzleRow) → IsWritten REPLACE_PUZZLE.now (puzzle_params text row)
replace_puzzle_written text row = by_hall (IsWrittenIn REPLACE_PUZZLE.now (puzzle_params text row))
    (λ u. written REPLACE_PUZZLE.now (puzzle_params text row) _ (replace_puzzle_is u).0 tt (replace_puzzle_is u).1
    (replace_puzzle_whole u))

pub add_head_whole : (u : Wording) → is_whole ADD_HEAD.now 10 (understood (hall_in u) ADD_HEAD.now) ≡ true
unfolding understood everything
add_head_whole u = refl

pub add_head_written : (round : Round) → IsWritten ADD_HEAD.now (head_params round)
add_head_written round = by_hall (IsWrittenIn ADD_HEAD.now (head_params round))
    (λ u. written ADD_HEAD.now (head_params round) _ (add_head_is u).0 tt (add_head_is u).1 (add_head_whole u))

pub replace_head_whole : (u : Wording) → is_whole REPLACE_HEAD.now 10 (understood (hall_in u) REPLACE_HEAD.now) ≡ true
unfolding understood everything
replace_head_whole u = refl

pub replace_head_written : (round : Round) → IsWritten REPLACE_HEAD.now (head_params round)
replace_head_written round = by_hall (IsWrittenIn REPLACE_HEAD.now (head_params round))
    (λ u. written REPLACE_HEAD.now (head_params round) _ (replace_head_is u).0 tt (replace_head_is u).1
    (replace_head_whole u))

pub drop_places_whole : (u : Wording) → is_whole DROP_PLACES.now 1 (understood (hall_in u) DROP_PLACES.now) ≡ true
unfolding understood everything
drop_places_whole u = refl

pub drop_places_written : (id : List ℕ) → IsWritten DROP_PLACES.now (Text id ∷ [])
drop_places_written id = by_hall (IsWrittenIn DROP_PLACES.now (Text id ∷ []))
    (λ u. written DROP_PLACES.now (Text id ∷ []) _ (drop_places_is u).0 tt (drop_places_is u).1 (drop_places_whole u))

pub add_place_whole : (u : Wording) → is_whole ADD_PLACE.now 5 (understood (hall_in u) ADD_PLACE.now) ≡ true
unfolding understood everything
add_place_whole u = refl

pub add_place_written : (id : List ℕ) (number : ℕ) (entry : Entry)
    → IsWritten ADD_PLACE.now (place_params id number entry)
add_place_written id number entry = by_hall (IsWrittenIn ADD_PLACE.now (place_params id number entry))
    (λ u. written ADD_PLACE.now (place_params id number entry) _ (add_place_is u).0 tt (add_place_is u).1
    (add_place_whole u))

pub drop_testers_whole : (u : Wording) → is_whole DROP_TESTERS.now 1 (understood (hall_in u) DROP_TESTERS.now) ≡ true
unfolding understood everything
drop_testers_whole u = refl

pub drop_testers_written : (id : List ℕ) → IsWritten DROP_TESTERS.now (Text id ∷ [])
drop_testers_written id = by_hall (IsWrittenIn DROP_TESTERS.now (Text id ∷ []))
    (λ u. written DROP_TESTERS.now (Text id ∷ []) _ (drop_testers_is u).0 tt (drop_testers_is u).1
    (drop_testers_whole u))

pub add_tester_whole : (u : Wording) → is_whole ADD_TESTER.now 2 (understood (hall_in u) ADD_TESTER.now) ≡ true
unfolding understood everything
add_tester_whole u = refl

pub add_tester_written : (id name : List ℕ) → IsWritten ADD_TESTER.now (tester_params id name)
add_tester_written id name = by_hall (IsWrittenIn ADD_TESTER.now (tester_params id name))
    (λ u. written ADD_TESTER.now (tester_params id name) _ (add_tester_is u).0 tt (add_tester_is u).1
    (add_tester_whole u))

pub add_person_whole : (u : Wording) → is_whole ADD_PERSON.now 3 (understood (hall_in u) ADD_PERSON.now) ≡ true
unfolding understood everything
add_person_whole u = refl

pub add_person_written : (person : Person) → IsWritten ADD_PERSON.now (person_params person)
add_person_written person = by_hall (IsWrittenIn ADD_PERSON.now (person_params person))
    (λ u. written ADD_PERSON.now (person_params person) _ (add_person_is u).0 tt (add_person_is u).1
    (add_person_whole u))

pub look_puzzle_whole : (u : Wording) → is_whole LOOK_PUZZLE.now 2 (understood (hall_in u) LOOK_PUZZLE.now) ≡ true
unfolding understood everything
look_puzzle_whole u = refl

pub look_puzzle_asked : (author label : List ℕ) → IsAsked LOOK_PUZZLE.now (Text author ∷ Text label ∷ [])
look_puzzle_asked author label = by_hall (IsAskedIn LOOK_PUZZLE.now (Text author ∷ Text label ∷ []))
    (λ u. asked LOOK_PUZZLE.now (Text author ∷ Text label ∷ []) 3 key_terms (col 1 1 ∷ []) [] _ (look_puzzle_is u).0
    (look_puzzle_is u).1 (look_puzzle_is u).2 (look_puzzle_whole u) refl)

pub look_head_whole : (u : Wording) → is_whole LOOK_HEAD.now 1 (understood (hall_in u) LOOK_HEAD.now) ≡ true
unfolding understood everything
look_head_whole u = refl

pub look_head_asked : (id : List ℕ) → IsAsked LOOK_HEAD.now (Text id ∷ [])
look_head_asked id = by_hall (IsAskedIn LOOK_HEAD.now (Text id ∷ []))
    (λ u. asked LOOK_HEAD.now (Text id ∷ []) 5 id_terms (col 1 1 ∷ []) [] _ (look_head_is u).0 (look_head_is u).1
    (look_head_is u).2 (look_head_whole u) refl)
