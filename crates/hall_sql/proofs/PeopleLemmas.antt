-- What the statements on people say of the world.
use Rattle.std.proofs.Common.{◌≡◌, ◌≤◌, ℕ, List, [], ◌∷◌, length, map, slice_get, Some, true}
use Rattle.std.specs.Ordering.{eq_by_cmp}
use Rattle.std.specs.FinMap.{get}
use Rattle.sqlite.specs.declared.types.Value.TheVariants.{Text}
use Rattle.sqlite.specs.Order.{Row}
use Rattle.sqlite_value.specs.Order.{column}
use Rattle.sqlite.specs.State.{State, Shown}
use Rattle.hall_policy.specs.Text.{text_cmp, is_word_byte, is_key_byte}
use Rattle.hall_policy.specs.declared.record.Person.{Person}
use Rattle.hall_sql.specs.Tables.{IsHallSchema}
use Rattle.hall_sql.proofs.Wordings.{worded}
use Rattle.hall_sql.specs.declared.people.TheConstants.{PERSON}
use Rattle.hall_sql.specs.Values.{name_in, key_in, roles_in}
use Rattle.hall_sql.specs.Rows.{person_in, person_of_row, world_of}
use Rattle.hall_sql.proofs.PeopleTexts.{person, person_is}
use Rattle.hall_sql.proofs.Queries.{passes}
use Rattle.hall_sql.proofs.ColumnLemmas.{kind_column, column_equals, last_equal}
use Rattle.hall_policy.proofs.Orders.{text_total, same_texts}
use Rattle.hall_sql.proofs.FoundLemmas.{asked_found}
use Rattle.hall_sql.proofs.BoundLemmas.{is_name, name_read}
use Rattle.hall_sql.proofs.RecordParts.{person_parts_of}

pub name_column : (r : Row) (p : Person) → person_of_row r ≡ Some p → column r 1 ≡ Text p.name
name_column r p is = kind_column 1 24 is_word_byte (column r 1) p.name
    (person_parts_of (name_in (column r 1)) (key_in (column r 2)) (roles_in (column r 3)) p is).name

pub name_kept : (r : Row) (p : Person) → person_of_row r ≡ Some p → is_name p.name ≡ true
name_kept r p is = name_read (column r 1) p.name
    (person_parts_of (name_in (column r 1)) (key_in (column r 2)) (roles_in (column r 3)) p is).name

pub key_column : (r : Row) (p : Person) → person_of_row r ≡ Some p → column r 2 ≡ Text p.key
key_column r p is = kind_column 8 64 is_key_byte (column r 2) p.key
    (person_parts_of (name_in (column r 1)) (key_in (column r 2)) (roles_in (column r 3)) p is).key

-- WHERE name = ?1 asks for the name
named : (name : List ℕ) (r : Row) (p : Person) → person_of_row r ≡ Some p
    → passes (person name) r ≡ eq_by_cmp text_cmp p.name name
named name r p is = last_equal _ _ (column_equals (column r 1) p.name name (name_column r p is))

pub person_found : (name : List ℕ) (old new : State) (rows : List Row) (out : List Person) → IsHallSchema old.now.schema
    → Shown PERSON.now (Text name ∷ []) old new rows → map person_in rows ≡ map Some out → length out ≤ 1
    → slice_get out 0 ≡ get (world_of old.now.trees).people name
person_found name old new rows out has =
    let (u, words) = worded old.now.schema has in
    asked_found text_total same_texts (person_is name u) (λ (p : Person). p.name) name (named name) old new rows
    out words
