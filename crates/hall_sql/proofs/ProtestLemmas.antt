-- What the statements on protests say of the world.
use Rattle.std.proofs.Common.{◌≡◌, ◌≤◌, inr, ◌&&◌, ℕ, pos, List, [], ◌∷◌, length, map, flat_map, true, slice_get, Some}
use Rattle.std.proofs.Common.{IfSome, option_to_list, sym, ap, subst, ◌∙◌}
use Rattle.std.proofs.lemmas.Option.{IfSome_then}
use Rattle.std.specs.List.{list_all}
use Rattle.std.specs.List.Sorted.{IsPermutation}
use Rattle.std.specs.Ordering.{eq_by_cmp}
use Rattle.std.specs.FinMap.{get, values}
use Rattle.sqlite.specs.declared.types.Value.TheVariants.{Int, Text}
use Rattle.sqlite.specs.Effect.{IsDatabase}
use Rattle.sqlite.specs.Order.{Row}
use Rattle.sqlite.specs.State.{State, Shown}
use Rattle.sqlite.specs.Term.{Term, holds}
use Rattle.sqlite.specs.Tree.{Trees}
use Rattle.sqlite_schema.specs.Rules.{agree}
use Rattle.sqlite_rules.proofs.ListLemmas.{all_has}
use Rattle.sqlite_value.specs.Keys.{plain, first_key}
use Rattle.sqlite_value.specs.Order.{column}
use Rattle.sqlite_value.proofs.OrderLemmas.{then-Equal, value_cmp-Text}
use Rattle.hall_policy.specs.Limits.{most_number}
use Rattle.hall_grid.specs.Printable.{is_printable}
use Rattle.hall_policy.specs.Text.{text_cmp, is_word_byte}
use Rattle.hall_policy.specs.World.{protest_cmp}
use Rattle.hall_policy.specs.declared.record.ProtestKey.{ProtestKey}
use Rattle.hall_policy.specs.declared.record.ProtestRow.{ProtestRow}
use Rattle.hall_policy.proofs.Orders.{protest_total, same_protest_keys}
use Rattle.hall_store.specs.Store.{protests_in, protests_of, is_protest_in, is_protest_of}
use Rattle.hall_sql.specs.Tables.{IsHallSchema}
use Rattle.hall_sql.proofs.Wordings.{Wording, hall_in, worded}
use Rattle.hall_sql.specs.Values.{name_in, token_in, within, kind_in, ruling_in}
use Rattle.hall_sql.specs.Rows.{protest_in, protest_of_row, world_of}
use Rattle.hall_sql.specs.Columns.{IsAlone}
use Rattle.hall_sql.specs.Standing.{AreKeyed, AreKeyedIn}
use Rattle.hall_sql.specs.declared.protests.TheConstants.{ALL_PROTESTS, PROTEST, PROTESTS_OF, PROTESTS_IN}
use Rattle.hall_sql.proofs.ColumnLemmas.{kind_column, number_column, column_equals, column_same, and_true, last_equal}
use Rattle.hall_sql.proofs.ColumnLemmas.{more_equal}
use Rattle.hall_sql.proofs.FoundLemmas.{asked_found, asked_alone}
use Rattle.hall_sql.proofs.ListedLemmas.{values_asked}
use Rattle.hall_sql.specs.Statements.{equals}
use Rattle.hall_sql.proofs.RecordParts.{protest_parts_of}
use Rattle.hall_sql.proofs.UniqueLemmas.{equal_texts, records_listed}
use Rattle.hall_sql.specs.Versions.{IsVersion}
use Rattle.sqlite.specs.Schema.{Schema}
use Rattle.hall_sql.specs.declared.tables.HallTable.TheVariants.{Protests}
use Rattle.hall_sql.proofs.Versions.{all_listed, keyed_in, unique_in}
use Rattle.hall_sql.proofs.ProtestTexts as queries
use Rattle.hall_sql.proofs.ProtestTexts.{all_protests_are, keys, protest, protest_is}
use Rattle.hall_sql.proofs.Queries.{by_order, passes, query}

-- the columns of a protest, and what its ruling is read from
pub record HasColumns (r : Row) (row : ProtestRow) : Type 0 where
  pub entrant : column r 1 ≡ Text row.key.entrant
  pub round : column r 2 ≡ Text row.key.round
  pub token : column r 3 ≡ Text row.key.token
  pub number : column r 4 ≡ Int (pos row.number)
  pub text : column r 5 ≡ Text row.text
  pub ruling : ruling_in (column r 6) (column r 7) ≡ Some row.ruling

pub has_columns : (r : Row) (row : ProtestRow) → protest_of_row r ≡ Some row → HasColumns r row
has_columns r row is =
    let it = protest_parts_of (name_in (column r 1)) (name_in (column r 2)) (token_in (column r 3))
    (within 1 most_number (column r 4))
    (kind_in 1 200 is_printable (column r 5)) (ruling_in (column r 6) (column r 7)) row is in
    record {
      entrant = kind_column 1 24 is_word_byte (column r 1) row.key.entrant it.entrant;
      round = kind_column 1 24 is_word_byte (column r 2) row.key.round it.round;
      token = kind_column 1 32 is_word_byte (column r 3) row.key.token it.token;
      number = number_column 1 most_number (column r 4) row.number it.number;
      text = kind_column 1 200 is_printable (column r 5) row.text it.text;
      ruling = it.ruling;
    }

-- WHERE entrant = ?1 AND round = ?2 AND token = ?3 asks for the key
pub agrees : (key : ProtestKey) (r : Row) (row : ProtestRow) → protest_of_row r ≡ Some row
    → passes (protest key) r ≡ eq_by_cmp protest_cmp row.key key
agrees key r row is =
    let it = has_columns r row is in
    more_equal _ _ _ _ (column_equals (column r 1) row.key.entrant key.entrant it.entrant)
    (more_equal _ _ _ _ (column_equals (column r 2) row.key.round key.round it.round)
    (last_equal _ _ (column_equals (column r 3) row.key.token key.token it.token)))

pub protest_found : (key : ProtestKey) (old new : State) (rows : List Row) (out : List ProtestRow)
    → IsHallSchema old.now.schema → Shown PROTEST.now (protest key).params old new rows
    → map protest_in rows ≡ map Some out → length out ≤ 1
    → slice_get out 0 ≡ get (world_of old.now.trees).protests key
protest_found key old new rows out has =
    let (u, words) = worded old.now.schema has in
    asked_found protest_total same_protest_keys (protest_is key u) (λ (row : ProtestRow). row.key) key (agrees key) old
    new rows out words

-- the protest that it gives stands alone under the key
pub protest_alone : (key : ProtestKey) (old new : State) (rows : List Row) (out : List ProtestRow)
    → IsHallSchema old.now.schema → Shown PROTEST.now (protest key).params old new rows
    → map protest_in rows ≡ map Some out → length out ≤ 1 → IfSome (slice_get out 0) (IsAlone key old)
protest_alone key old new rows out has shown is short =
    let (u, words) = worded old.now.schema has in
    IfSome_then (slice_get out 0)
    (asked_alone protest_total same_protest_keys (protest_is key u) (λ (row : ProtestRow). row.key) key (agrees key) old
    new rows out words shown is short)
    (λ row it. record { one = it.0; found = it.1; reads = it.2 })

-- ---- listings

-- two rows of one key agree on the columns of the primary key
agreeing : (r y : Row) (x z : ProtestRow) → protest_of_row r ≡ Some x → protest_of_row y ≡ Some z → x.key ≡ z.key
    → agree plain (1 ∷ 2 ∷ 3 ∷ []) y (1 ∷ 2 ∷ 3 ∷ []) r ≡ true
unfolding first_key
agreeing r y x z p q e =
    let one = has_columns r x p in
    let two = has_columns y z q in
    rw (
      one.entrant,
      one.round,
      one.token,
      two.entrant,
      two.round,
      two.token,
      equal_texts z.key.entrant x.key.entrant (ap (λ (k : ProtestKey). k.entrant) (sym e)),
      equal_texts z.key.round x.key.round (ap (λ (k : ProtestKey). k.round) (sym e)),
      equal_texts z.key.token x.key.token (ap (λ (k : ProtestKey). k.token) (sym e)),
    )

-- the table's records are the world's protests, each once
pub protests_listed : {schema : Schema} → IsVersion schema → (db : Trees) → AreKeyed (db 12)
    → IsDatabase (record { schema = schema; trees = db })
    → IsPermutation (flat_map (λ r. option_to_list (protest_of_row r)) (db 12)) (values (world_of db).protests)
protests_listed {schema} version db keyed sound =
    let rule = unique_in schema Protests db version sound in
    records_listed protest_total same_protest_keys (λ (row : ProtestRow). row.key) protest_of_row (1 ∷ 2 ∷ 3 ∷ [])
    (db 12)
    keyed agreeing
    (λ r h. all_has _ (db 12) r rule h)

-- ORDER BY entrant, round, token is the order of keys
pub same_order : (text : List ℕ) (params : Row) (terms : List Term) (a b : Row) (x y : ProtestRow)
    → protest_of_row a ≡ Some x → protest_of_row b ≡ Some y
    → by_order (query Protests text params terms keys) a b ≡ protest_cmp x.key y.key
same_order text params terms a b x y p q =
    let one = has_columns a x p in
    let two = has_columns b y q in
    rw (
      one.entrant,
      one.round,
      one.token,
      two.entrant,
      two.round,
      two.token,
      value_cmp-Text x.key.entrant y.key.entrant,
      value_cmp-Text x.key.round y.key.round,
      value_cmp-Text x.key.token y.key.token,
      then-Equal (text_cmp x.key.token y.key.token),
    )

pub all_protests_listed : (schema : Schema) → IsVersion schema → (old new : State) → old.now.schema ≡ schema
    → AreKeyedIn schema old.now.trees
    → IsDatabase old.now → (rows : List Row) (out : List ProtestRow) → map protest_in rows ≡ map Some out
    → Shown ALL_PROTESTS.now [] old new rows
    → out ≡ values (world_of old.now.trees).protests
all_protests_listed schema version old new has keyed sound =
    let db = old.now.trees in
    let whole = protests_listed version db (keyed_in schema Protests db version keyed)
    (subst (λ s. IsDatabase (record { schema = s; trees = db })) has sound) in
    all_listed (all_protests_are schema version) protest_total same_protest_keys (λ (row : ProtestRow). row.key)
    (same_order ALL_PROTESTS.now [] []) old new has whole

-- what a query gives of the world's protests
module _ (old new : State) (has : IsHallSchema old.now.schema) (keyed : AreKeyed (old.now.trees 12))
    (sound : IsDatabase old.now)
    (rows : List Row) (out : List ProtestRow) (is : map protest_in rows ≡ map Some out) where
  said : (u : Wording) × (old.now.schema ≡ hall_in u)
  said = worded old.now.schema has

  pub whole : IsPermutation (flat_map (λ r. option_to_list (protest_of_row r)) (old.now.trees 12))
      (values (world_of old.now.trees).protests)
  whole =
      let db = old.now.trees in
      protests_listed {schema = old.now.schema} (inr has) db keyed sound

  pub in_agrees : (round : List ℕ) (r : Row) (x : ProtestRow) → protest_of_row r ≡ Some x
      → passes (queries.protests_in round) r ≡ is_protest_in round x
  in_agrees round r x h = and_true _ ∙ column_same (column r 2) x.key.round round (has_columns r x h).round

  of_agrees : (entrant round : List ℕ) (r : Row) (x : ProtestRow) → protest_of_row r ≡ Some x
      → passes (queries.protests_of entrant round) r ≡ is_protest_of entrant round x
  of_agrees entrant round r x h =
      let it = has_columns r x h in
      ap (λ b. b && (list_all (holds ((Text entrant ∷ Text round ∷ []) ∷ r ∷ [])) (equals 1 0 ∷ [])))
      (column_same (column r 2) x.key.round round it.round)
      ∙ ap (λ b. is_protest_in round x && b) (and_true _ ∙ column_same (column r 1) x.key.entrant entrant it.entrant)

  pub protests_in_listed : (round : List ℕ) → Shown PROTESTS_IN.now (Text round ∷ []) old new rows
      → out ≡ protests_in (world_of old.now.trees) round
  protests_in_listed round shown =
      values_asked (queries.protests_in_is round said.0) old new rows out said.1 shown is (is_protest_in round)
      (in_agrees round) protest_total same_protest_keys (λ (row : ProtestRow). row.key) whole
      (same_order PROTESTS_IN.now (Text round ∷ []) (equals 2 0 ∷ []))

  pub protests_of_listed : (entrant round : List ℕ) → Shown PROTESTS_OF.now (Text entrant ∷ Text round ∷ []) old new
      rows
      → out ≡ protests_of (world_of old.now.trees) entrant round
  protests_of_listed entrant round shown =
      let q = queries.protests_of entrant round in
      values_asked (queries.protests_of_is entrant round said.0) old new rows out said.1 shown is
      (is_protest_of entrant round) (of_agrees entrant round) protest_total same_protest_keys
      (λ (row : ProtestRow). row.key) whole (same_order q.text q.params q.terms)
