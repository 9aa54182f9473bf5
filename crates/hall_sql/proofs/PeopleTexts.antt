-- What the statements on people mean under the hall's tables.
use Rattle.std.proofs.Common.{◌≡◌, List, ℕ, refl, true, false, [], ◌∷◌}
use Rattle.sqlite_tied.specs.Compute.{everything}
use Rattle.sqlite_value.specs.declared.keys.Key.{Key}
use Rattle.sqlite.specs.Term.{Term, lit, col}
use Rattle.sqlite.specs.Listing.{understood, reads_listing}
use Rattle.sqlite.specs.Command.TheVariants.{Select, Insert}
use Rattle.sqlite.specs.Source.TheVariants.{Values}
use Rattle.sqlite.specs.declared.types.Value.TheVariants.{Null, Text}
use Rattle.sqlite.proofs.Callers.{IsPlain, command_of}
use Rattle.hall_sql.specs.declared.tables.HallTable.TheVariants.{People}
use Rattle.hall_sql.specs.Statements.{above, equals, first_rows, rising, names_of, plain_query}
use Rattle.hall_sql.specs.declared.people.TheConstants.{PERSON, PERSON_BY_KEY, ADD_PERSON, ALL_PEOPLE}
use Rattle.hall_sql.specs.declared.people.TheConstants.{PEOPLE_AFTER}
use Rattle.hall_store.specs.Store.{people_at_once}
use Rattle.hall_sql.specs.Asked.{IsAsked, IsAskedIn, is_whole}
use Rattle.hall_sql.proofs.FirstRows.{first_asked}
use Rattle.hall_sql.specs.Versions.{IsVersion}
use Rattle.sqlite.specs.Schema.{Schema}
use Rattle.hall_sql.proofs.Versions.{by_version}
use Rattle.hall_sql.proofs.Wordings.{Wording, by_hall, hall_in}
use Rattle.hall_sql.proofs.Queries.{Computes, TableQuery, query}

abbrev pub person_columns : List Term
person_columns = col 1 1 ∷ col 1 2 ∷ col 1 3 ∷ []

abbrev pub person_names : List (List ℕ)
person_names = names_of People

abbrev pub person : List ℕ → TableQuery
person name = query People PERSON.now (Text name ∷ []) (equals 1 0 ∷ []) []

abbrev pub person_by_key : List ℕ → TableQuery
person_by_key key = query People PERSON_BY_KEY.now (Text key ∷ []) (equals 2 0 ∷ []) []

-- what it would be without its LIMIT
abbrev pub people_after : List ℕ → TableQuery
people_after name = query People PEOPLE_AFTER.now (Text name ∷ []) (above 1 0 ∷ []) (1 ∷ [])

abbrev pub all_people : TableQuery
all_people = query People ALL_PEOPLE.now [] [] (1 ∷ [])

pub person_is : (name : List ℕ) (u : Wording) → Computes (person name) (hall_in u)
unfolding understood everything
person_is name u = record { is = refl; unlisted = refl; plain = (refl, refl); whole = refl; typed = refl }

pub person_by_key_is : (key : List ℕ) (u : Wording) → Computes (person_by_key key) (hall_in u)
unfolding understood everything
person_by_key_is key u = record { is = refl; unlisted = refl; plain = (refl, refl); whole = refl; typed = refl }

-- the order of names
abbrev pub name_order : List (Term × Key)
name_order = (col 1 1, rising) ∷ []

pub people_after_is : (u : Wording) → (command_of (understood (hall_in u) PEOPLE_AFTER.now) ≡ Select (record {
  lets = [];
  body = first_rows people_at_once (plain_query 0 (above 1 0 ∷ []) person_columns name_order);
}) person_names)
    × (reads_listing (hall_in u) PEOPLE_AFTER.now ≡ false) × IsPlain (understood (hall_in u) PEOPLE_AFTER.now)
    × (is_whole PEOPLE_AFTER.now 1 (understood (hall_in u) PEOPLE_AFTER.now) ≡ true)
unfolding understood everything
people_after_is u = (refl, refl, (refl, refl), refl)

pub people_after_asked : (name : List ℕ) → IsAsked PEOPLE_AFTER.now (Text name ∷ [])
people_after_asked name =
    by_hall (IsAskedIn PEOPLE_AFTER.now (Text name ∷ [])) (λ u. first_asked people_at_once 0 (above 1 0 ∷ [])
    person_columns name_order PEOPLE_AFTER.now (Text name ∷ []) _ (people_after_is u).0 (people_after_is u).1
    (people_after_is u).2 (people_after_is u).3 refl)

-- the rowid that is chosen, and each parameter
abbrev pub added_terms : List Term
added_terms = lit Null ∷ col 0 0 ∷ col 0 1 ∷ col 0 2 ∷ []

pub add_person_is : (u : Wording) → (command_of (understood (hall_in u) ADD_PERSON.now) ≡ Insert 0
    (Values added_terms 4))
    × IsPlain (understood (hall_in u) ADD_PERSON.now)
unfolding understood everything
add_person_is u = (refl, (refl, refl))

pub all_people_are : (schema : Schema) → IsVersion schema → Computes all_people schema
unfolding understood everything
all_people_are =
    by_version (Computes all_people)
    (λ u. record { is = refl; unlisted = refl; plain = (refl, refl); whole = refl; typed = refl })
    (λ u. record { is = refl; unlisted = refl; plain = (refl, refl); whole = refl; typed = refl })
