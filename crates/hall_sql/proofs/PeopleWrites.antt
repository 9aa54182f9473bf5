-- What the statement that writes a person leaves.
use Rattle.std.proofs.Common.{◌≡◌, ◌||◌, ℕ, pos, [], ◌∷◌, Bool, true, false, is_some, Some, Ok, refl, ap, ◌∙◌}
use Rattle.sqlite.specs.declared.types.Value.{Value}
use Rattle.sqlite.specs.declared.types.Value.TheVariants.{Int}
use Rattle.sqlite_rules.specs.Edit.{next_rowid}
use Rattle.sqlite.specs.State.{State, Executes}
use Rattle.hall_policy.specs.Text.{is_word_byte, is_key_byte}
use Rattle.hall_policy.specs.HasRole.{HasRole}
use Rattle.hall_policy.specs.Ranges.{IsPerson}
use Rattle.hall_policy.specs.declared.record.Person.{Person}
use Rattle.hall_policy.specs.declared.record.Roles.{Roles}
use Rattle.hall_policy.proofs.Orders.{text_total, same_texts}
use Rattle.hall_policy.proofs.Reading.{kind_holds}
use Rattle.hall_sql.specs.declared.tables.HallTable.TheVariants.{People}
use Rattle.hall_sql.specs.declared.people.TheConstants.{ADD_PERSON}
use Rattle.hall_sql.specs.Values.{roles_in}
use Rattle.hall_sql.specs.Columns.{person_params, roles_code}
use Rattle.hall_sql.specs.Rows.{person_of_row, world_of}
use Rattle.hall_sql.specs.Inside.{IsHallData, AddsPerson}
use Rattle.hall_sql.specs.Spared.{may_write}
use Rattle.hall_store.specs.declared.change.Change.TheVariants.{Import}
use Rattle.hall_sql.proofs.PeopleTexts.{added_terms, add_person_is}
use Rattle.hall_sql.proofs.AllRead.{added_read}
use Rattle.hall_sql.proofs.AddLemmas.{IsInsert, row_added, added_spares}
use Rattle.hall_sql.proofs.AloneLemmas.{alone_world}
use Rattle.hall_sql.proofs.MapLemmas.{put_new}
use Rattle.hall_sql.proofs.SparedLemmas.{taken_record}
use Rattle.hall_sql.proofs.WriteLemmas.{cast_null, cast_number}

abbrev made : Bool → Bool → Bool → Bool → Roles
made director author referee entrant = record {
  director = director;
  author = author;
  referee = referee;
  entrant =
      entrant;
}

-- roles are read from their sum
roles_read : (roles : Roles) → HasRole roles → roles_in (Int (pos (roles_code roles))) ≡ Some roles
roles_read roles some = of roles.director roles.author roles.referee roles.entrant some
  where
    of : (director author referee entrant : Bool) → HasRole (made director author referee entrant)
        → roles_in (Int (pos (roles_code (made director author referee entrant)))) ≡ Some
        (made director author referee entrant)
    of false false false false none = absurd (cc)
    of false false false true some = refl
    of false false true false some = refl
    of false false true true some = refl
    of false true false false some = refl
    of false true false true some = refl
    of false true true false some = refl
    of false true true true some = refl
    of true false false false some = refl
    of true false false true some = refl
    of true false true false some = refl
    of true false true true some = refl
    of true true false false some = refl
    of true true false true some = refl
    of true true true false some = refl
    of true true true true some = refl

-- the columns are read as the person, whatever the rowid is
person_reads : (person : Person) → IsPerson person → (id : Value) → person_of_row (id ∷ person_params person) ≡ Some
    person
person_reads person is id = rw (
  kind_holds 1 24 is_word_byte person.name is.name,
  kind_holds 8 64 is_key_byte person.key is.key,
  roles_read person.roles is.roles,
)

adds : (person : Person) → IsInsert People ADD_PERSON.now (person_params person)
adds person = record {
  at = 0;
  terms = added_terms;
  width = 4;
  there = λ u. refl;
  is = add_person_is;
  source = refl;
  casts = rw (cast_null, cast_number (roles_code person.roles));
}

-- the INSERT of a person adds the person, where the name is unknown
pub person_added : (person : Person) → IsPerson person → (old new : State) (count : ℕ)
    → Executes ADD_PERSON.now (person_params person) old new (Ok count)
    → IsHallData old.now → IsHallData new.now × AddsPerson person old.now new.now
person_added person is old new count ran held =
    let params = person_params person in
    let (after, it) = row_added People ADD_PERSON.now params (adds person) old new count ran held in
    let id = Int (next_rowid (old.now.trees 0)) in
    let reads = person_reads person is id in
    let own = taken_record text_total (λ (x : Person). x.name) person.name (person_of_row (id ∷ params)) person reads
    refl in (
      after,
      record {
        row = it;
        world = λ unknown. alone_world 0 old.now.trees new.now.trees it.others
            ∙ ap (λ people. record (world_of old.now.trees) { people = people })
            (put_new text_total same_texts (λ (x : Person). x.name) person_of_row person (id ∷ params) (old.now.trees 0)
            (new.now.trees 0) it.put reads it.free unknown);
        others = added_spares (may_write (Import (person ∷ []))) 0 params old.now new.now it (ap (λ b. b || false) own);
        read = added_read 0 params old.now new.now it (ap is_some reads) (λ all. all.0);
      },
    )
