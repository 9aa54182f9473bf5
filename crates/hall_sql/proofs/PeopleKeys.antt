-- Who has a key, of the people of the table.
use Rattle.std.proofs.Common.{◌≡◌, ◌≤◌, inr, ℕ, List, [], ◌∷◌, length, map, filter, flat_map, true, Option, Some, None}
use Rattle.std.proofs.Common.{IfSome, option_to_list, slice_get, take, ap, refl, sym, subst, ◌∙◌}
use Rattle.std.specs.List.Sorted.{IsPermutation}
use Rattle.std.specs.FinMap.{get, values}
use Rattle.sqlite.specs.declared.types.Value.TheVariants.{Text}
use Rattle.sqlite.specs.Effect.{IsDatabase}
use Rattle.sqlite.specs.Order.{Row}
use Rattle.sqlite.specs.State.{State, Shown}
use Rattle.sqlite.specs.Term.{Term}
use Rattle.sqlite.specs.Tree.{Trees}
use Rattle.sqlite_schema.specs.Rules.{agree}
use Rattle.sqlite_rules.proofs.ListLemmas.{all_has}
use Rattle.sqlite_value.specs.Keys.{plain, first_key}
use Rattle.sqlite_value.specs.Order.{column}
use Rattle.hall_policy.specs.World.{same_text}
use Rattle.hall_policy.specs.declared.record.Person.{Person}
use Rattle.hall_policy.proofs.Maps.{value_of_get}
use Rattle.hall_policy.proofs.Orders.{text_total, same_texts}
use Rattle.hall_store.proofs.Tests.{find-Contains}
use Rattle.hall_policy.proofs.Texts.{text_decides}
use Rattle.hall_store.specs.Caller.{IsKeyHolder, with_key}
use Rattle.hall_sql.specs.Tables.{IsHallSchema}
use Rattle.hall_sql.proofs.Wordings.{worded}
use Rattle.hall_sql.specs.Rows.{person_in, person_of_row, world_of}
use Rattle.hall_sql.specs.Standing.{AreKeyed, AreKeyedIn}
use Rattle.hall_sql.specs.declared.people.TheConstants.{PERSON_BY_KEY, ALL_PEOPLE, PEOPLE_AFTER}
use Rattle.hall_sql.proofs.AmongLemmas.{kept_value, is_among, only_found, only_one}
use Rattle.hall_sql.proofs.ColumnLemmas.{and_true, column_same}
use Rattle.hall_sql.proofs.ListedLemmas.{records_asked}
use Rattle.hall_sql.proofs.PeopleLemmas.{name_column, name_kept, key_column}
use Rattle.hall_sql.specs.Bounds.{text_before}
use Rattle.hall_sql.proofs.BoundLemmas.{column_above, name_after}
use Rattle.hall_sql.proofs.FirstRows.{first_records, first_shown}
use Rattle.hall_sql.proofs.SelectedLemmas.{values_selected}
use Rattle.hall_store.specs.Store.{is_after, people_after, people_at_once}
use Rattle.hall_sql.proofs.UniqueLemmas.{equal_texts, kept_keyed, records_listed}
use Rattle.hall_sql.specs.Versions.{IsVersion}
use Rattle.sqlite.specs.Schema.{Schema}
use Rattle.hall_sql.specs.declared.tables.HallTable.TheVariants.{People}
use Rattle.hall_sql.proofs.Versions.{all_listed, keyed_in, unique_in}
use Rattle.sqlite_value.proofs.OrderLemmas.{then-Equal, value_cmp-Text}
use Rattle.hall_policy.specs.Text.{text_cmp}
use Rattle.hall_sql.proofs.PeopleTexts.{all_people_are, name_order, people_after as people_after_all, people_after_is}
use Rattle.hall_sql.proofs.PeopleTexts.{person_by_key, person_by_key_is, person_columns}
use Rattle.hall_sql.proofs.Queries.{by_order, passes, query}

-- two rows of one name agree on the column of the primary key
agreeing : (r y : Row) (x z : Person) → person_of_row r ≡ Some x → person_of_row y ≡ Some z → x.name ≡ z.name
    → agree plain (1 ∷ []) y (1 ∷ []) r ≡ true
unfolding first_key
agreeing r y x z p q e = rw (name_column r x p, name_column y z q, equal_texts z.name x.name (sym e))

-- the table's records are the world's people, each once
people_listed : {schema : Schema} → IsVersion schema → (db : Trees) → AreKeyed (db 0)
    → IsDatabase (record { schema = schema; trees = db })
    → IsPermutation (flat_map (λ r. option_to_list (person_of_row r)) (db 0)) (values (world_of db).people)
people_listed {schema} version db keyed sound =
    let rule = unique_in schema People db version sound in
    records_listed text_total same_texts (λ (p : Person). p.name) person_of_row (1 ∷ []) (db 0) keyed agreeing
    (λ r h. all_has _ (db 0) r rule h)

-- WHERE pass = ?1 asks for the key
keyed_so : (key : List ℕ) (r : Row) (p : Person) → person_of_row r ≡ Some p
    → passes (person_by_key key) r ≡ same_text p.key key
keyed_so key r p h = and_true _ ∙ column_same (column r 2) p.key key (key_column r p h)

-- where at most one has the key, that one is its holder
holder : (db : Trees) (key : List ℕ) (out : List Person)
    → IsPermutation (filter (λ p. same_text p.key key) (values (world_of db).people)) out → length out ≤ 1
    → IsKeyHolder (world_of db) key (slice_get out 0)
holder db key out same short =
    let people = values (world_of db).people in
    let has = λ (p : Person). same_text p.key key in
    let found : slice_get out 0 ≡ with_key (world_of db) key = only_found has people out same short in
    record {
      found = found;
      there = there (slice_get out 0) found;
      alone = λ name other kept own.
          only_one out other short (is_among has people out same other
          (value_of_get (world_of db).people name other kept)
          ((text_decides other.key key).1 own));
      own = λ name other kept own. kept_keyed text_total same_texts (λ (p : Person). p.name) person_of_row (db 0) name
          other kept;
    }
  where
    there : (o : Option Person) → o ≡ with_key (world_of db) key
        → IfSome o (λ p. get (world_of db).people p.name ≡ Some p)
    there None is = tt
    there (Some p) is =
        kept_value text_total same_texts (λ (p : Person). p.name) person_of_row (db 0) p
        (find-Contains (λ (p : Person). same_text p.key key) (values (world_of db).people) p (sym is)).0

pub key_holder : (old new : State) → IsHallSchema old.now.schema → AreKeyed (old.now.trees 0) → IsDatabase old.now
    → (rows : List Row) (out : List Person) → map person_in rows ≡ map Some out → length out ≤ 1 → (key : List ℕ)
    → Shown PERSON_BY_KEY.now (Text key ∷ []) old new rows → IsKeyHolder (world_of old.now.trees) key (slice_get out 0)
key_holder old new has keyed sound rows out is short key shown =
    let (u, words) = worded old.now.schema has in
    let db = old.now.trees in
    let whole = people_listed {schema = old.now.schema} (inr has) db keyed sound in
    holder db key out
    (records_asked (person_by_key_is key u) old new rows out words shown is (λ p. same_text p.key key) (keyed_so key)
    (values (world_of db).people) whole) short

-- ORDER BY name is the order of names
same_order : (text : List ℕ) (params : Row) (terms : List Term) (a b : Row) (x y : Person) → person_of_row a ≡ Some x
    → person_of_row b ≡ Some y → by_order (query People text params terms (1 ∷ [])) a b ≡ text_cmp x.name y.name
same_order text params terms a b x y p q =
    rw (name_column a x p, name_column b y q, value_cmp-Text x.name y.name, then-Equal (text_cmp x.name y.name))

pub all_people_listed : (schema : Schema) → IsVersion schema → (old new : State) → old.now.schema ≡ schema
    → AreKeyedIn schema old.now.trees
    → IsDatabase old.now → (rows : List Row) (out : List Person) → map person_in rows ≡ map Some out
    → Shown ALL_PEOPLE.now [] old new rows
    → out ≡ values (world_of old.now.trees).people
all_people_listed schema version old new has keyed sound =
    let db = old.now.trees in
    let whole = people_listed version db (keyed_in schema People db version keyed)
    (subst (λ s. IsDatabase (record { schema = s; trees = db })) has sound) in
    all_listed (all_people_are schema version) text_total same_texts (λ (p : Person). p.name)
    (same_order ALL_PEOPLE.now [] []) old new has whole

-- WHERE name > ?1 asks for those after the name
after_so : (after : Option (List ℕ)) (r : Row) (p : Person) → person_of_row r ≡ Some p
    → passes (people_after_all (text_before after)) r ≡ is_after after p.name
after_so after r p is =
    and_true _ ∙ column_above (column r 1) p.name (text_before after) (name_column r p is)
    ∙ name_after after p.name (name_kept r p is)

-- and its LIMIT for as many as are read at once
pub people_after_listed : (old new : State) → IsHallSchema old.now.schema → AreKeyed (old.now.trees 0)
    → IsDatabase old.now → (rows : List Row) (out : List Person) → map person_in rows ≡ map Some out
    → (after : Option (List ℕ)) → Shown PEOPLE_AFTER.now (Text (text_before after) ∷ []) old new rows
    → out ≡ people_after (world_of old.now.trees) after
people_after_listed old new has keyed sound rows out is after shown =
    let (u, words) = worded old.now.schema has in
    let db = old.now.trees in
    let q = people_after_all (text_before after) in
    let first = first_shown people_at_once 0 q.terms person_columns name_order q.text q.params _
    (people_after_is u).0 (people_after_is u).1 (people_after_is u).2 old new rows refl words shown in
    first_records person_in people_at_once first.0 out (subst (λ l. map person_in l ≡ map Some out) first.2 is)
    ∙ ap (take people_at_once) (values_selected q (db 0) first.0 first.1 text_total same_texts (λ (p : Person). p.name)
    (people_listed {schema = old.now.schema} (inr has) db keyed sound) (λ p. is_after after p.name) (after_so after)
    (same_order q.text q.params q.terms))
