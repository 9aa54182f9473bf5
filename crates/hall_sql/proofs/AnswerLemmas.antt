-- What the statements on answers say of the world.
use Rattle.std.proofs.Common.{◌&&◌, inr, flat_map, option_to_list, Bool, true, sym, subst, ◌∙◌, ◌≡◌, ◌≤◌, ℕ, pos, List}
use Rattle.std.proofs.Common.{[], ◌∷◌, length, map, slice_get, Option, Some, ap}
use Rattle.std.specs.List.{list_all}
use Rattle.std.specs.Ordering.{eq_by_cmp}
use Rattle.std.specs.FinMap.{get}
use Rattle.sqlite.specs.declared.types.Value.TheVariants.{Int, Text}
use Rattle.sqlite.specs.Order.{Row}
use Rattle.sqlite_value.specs.Order.{column}
use Rattle.sqlite.specs.Term.{holds}
use Rattle.sqlite.specs.State.{State, Shown}
use Rattle.hall_policy.specs.Limits.{last_second, most_answers, most_number}
use Rattle.hall_grid.specs.Printable.{is_printable}
use Rattle.hall_policy.specs.Text.{is_word_byte}
use Rattle.hall_policy.specs.World.{answer_cmp}
use Rattle.std.specs.Ordering.{nat_cmp}
use Rattle.std.specs.Cmp.Lexicographic.{slice_cmp}
use Rattle.std.specs.List.Sorted.{IsPermutation}
use Rattle.std.specs.FinMap.{values}
use Rattle.sqlite_value.proofs.OrderLemmas.{then-Equal}
use Rattle.sqlite_value.specs.Keys.{plain, first_key}
use Rattle.sqlite_value.proofs.OrderLemmas.{value_cmp-Text, value_cmp-Int}
use Rattle.sqlite_schema.specs.Rules.{agree}
use Rattle.sqlite_rules.proofs.ListLemmas.{all_has}
use Rattle.sqlite.specs.Effect.{IsDatabase}
use Rattle.sqlite.specs.Table.{Table}
use Rattle.sqlite.specs.Term.{Term}
use Rattle.sqlite.specs.Tree.{Trees}
use Rattle.hall_store.specs.Store.{IsListing, listing_cmp, is_between, is_in, is_of}
use Rattle.hall_sql.specs.Bounds.{text_before, text_up_to}
use Rattle.hall_sql.proofs.BoundLemmas.{column_above, column_up_to, is_name, name_after, name_read, name_up_to}
use Rattle.hall_sql.specs.Tables.{IsHallSchema, table_at}
use Rattle.hall_sql.proofs.Wordings.{Wording, hall_in, worded}
use Rattle.hall_sql.specs.Standing.{AreKeyed, AreKeyedIn}
use Rattle.hall_sql.specs.Statements.{equals}
use Rattle.hall_sql.specs.declared.answers.TheConstants.{ANSWERS_IN, ANSWERS_OF, ALL_ANSWERS, ANSWER}
use Rattle.hall_sql.proofs.AnswerTexts.{all_answers, all_answers_are, answer, answer_is, answers_between, answers_in}
use Rattle.hall_sql.proofs.AnswerTexts.{answers_in_is}
use Rattle.hall_sql.proofs.AnswerTexts.{answers_of, answers_of_is, listing}
use Rattle.hall_sql.proofs.ColumnLemmas.{int_as_nat, and_true, column_same}
use Rattle.hall_sql.proofs.UniqueLemmas.{equal_texts, equal_numbers, records_listed}
use Rattle.hall_policy.proofs.Orders.{answer_total, same_answer_keys}
use Rattle.hall_policy.specs.declared.record.AnswerKey.{AnswerKey}
use Rattle.hall_policy.specs.declared.record.AnswerRow.{AnswerRow}
use Rattle.hall_sql.specs.Values.{name_in, token_in, within, kind_in, verdict_in}
use Rattle.hall_sql.specs.Rows.{answer_in, answer_of_row, world_of}
use Rattle.hall_sql.proofs.ColumnLemmas.{kind_column, number_column, column_equals, column_is, last_equal, more_equal}
use Rattle.hall_sql.proofs.FoundLemmas.{asked_found}
use Rattle.hall_sql.proofs.RecordParts.{answer_parts_of}
use Rattle.hall_sql.specs.Versions.{IsVersion}
use Rattle.sqlite.specs.Schema.{Schema}
use Rattle.hall_sql.specs.declared.tables.HallTable.TheVariants.{Answers}
use Rattle.hall_sql.proofs.Versions.{all_listed, keyed_in, unique_in}
use Rattle.hall_sql.proofs.ListedLemmas.{records_asked, records_sorted}
use Rattle.hall_sql.proofs.Queries.{Computes, by_order, passes, query}

-- the columns of an answer that listings are ordered by
pub record HasColumns (r : Row) (row : AnswerRow) : Type 0 where
  pub entrant : column r 1 ≡ Text row.key.entrant
  pub round : column r 2 ≡ Text row.key.round
  pub number : column r 3 ≡ Int (pos row.key.number)
  pub token : column r 4 ≡ Text row.key.token
  pub n : column r 5 ≡ Int (pos row.n)
  pub named : is_name row.key.entrant ≡ true

pub has_columns : (r : Row) (row : AnswerRow) → answer_of_row r ≡ Some row → HasColumns r row
has_columns r row is =
    let it = answer_parts_of (name_in (column r 1)) (name_in (column r 2)) (within 1 most_number (column r 3))
    (token_in (column r 4)) (within 1 most_answers (column r 5))
    (within 0 last_second (column r 6)) (kind_in 0 4000 is_printable (column r 7)) (verdict_in (column r 8)) row is in
    record {
      entrant = kind_column 1 24 is_word_byte (column r 1) row.key.entrant it.entrant;
      round = kind_column 1 24 is_word_byte (column r 2) row.key.round it.round;
      number = number_column 1 most_number (column r 3) row.key.number it.number;
      token = kind_column 1 32 is_word_byte (column r 4) row.key.token it.token;
      n = number_column 1 most_answers (column r 5) row.n it.n;
      named = name_read (column r 1) row.key.entrant it.entrant;
    }

-- WHERE entrant = ?1 AND round = ?2 AND number = ?3 AND token = ?4 asks for the key
agrees : (key : AnswerKey) (r : Row) (row : AnswerRow) → answer_of_row r ≡ Some row
    → passes (answer key) r ≡ eq_by_cmp answer_cmp row.key key
agrees key r row is =
    let it = has_columns r row is in
    more_equal _ _ _ _ (column_equals (column r 1) row.key.entrant key.entrant it.entrant)
    (more_equal _ _ _ _ (column_equals (column r 2) row.key.round key.round it.round)
    (more_equal _ _ _ _ (column_is (column r 3) row.key.number key.number it.number)
    (last_equal _ _ (column_equals (column r 4) row.key.token key.token it.token))))

pub answer_found : (key : AnswerKey) (old new : State) (rows : List Row) (out : List AnswerRow)
    → IsHallSchema old.now.schema
    → Shown ANSWER.now (answer key).params old new rows → map answer_in rows ≡ map Some out → length out ≤ 1
    → slice_get out 0 ≡ get (world_of old.now.trees).answers key
answer_found key old new rows out has =
    let (u, words) = worded old.now.schema has in
    asked_found answer_total same_answer_keys (answer_is key u) (λ (row : AnswerRow). row.key) key (agrees key) old new
    rows out words

-- ---- listings

-- two rows of one key agree on the columns of the primary key
agreeing : (r y : Row) (x z : AnswerRow) → answer_of_row r ≡ Some x → answer_of_row y ≡ Some z → x.key ≡ z.key
    → agree plain (1 ∷ 2 ∷ 3 ∷ 4 ∷ []) y (1 ∷ 2 ∷ 3 ∷ 4 ∷ []) r ≡ true
unfolding first_key
agreeing r y x z p q e =
    let one = has_columns r x p in
    let two = has_columns y z q in
    rw (
      one.entrant,
      one.round,
      one.number,
      one.token,
      two.entrant,
      two.round,
      two.number,
      two.token,
      equal_texts z.key.entrant x.key.entrant (ap (λ (k : AnswerKey). k.entrant) (sym e)),
      equal_texts z.key.round x.key.round (ap (λ (k : AnswerKey). k.round) (sym e)),
      equal_numbers z.key.number x.key.number (ap (λ (k : AnswerKey). k.number) (sym e)),
      equal_texts z.key.token x.key.token (ap (λ (k : AnswerKey). k.token) (sym e)),
    )

abbrev pub answers_there : Table
answers_there = table_at Answers

-- the table's records are the world's answers, each once
pub answers_listed : {schema : Schema} → IsVersion schema → (db : Trees) → AreKeyed (db 9)
    → IsDatabase (record { schema = schema; trees = db })
    → IsPermutation (flat_map (λ r. option_to_list (answer_of_row r)) (db 9)) (values (world_of db).answers)
answers_listed {schema} version db keyed sound =
    let rule = unique_in schema Answers db version sound in
    records_listed answer_total same_answer_keys (λ (row : AnswerRow). row.key) answer_of_row (1 ∷ 2 ∷ 3 ∷ 4 ∷ [])
    (db 9) keyed agreeing
    (λ r h. all_has _ (db 9) r rule h)

-- ORDER BY entrant, number, n, token is the order of listings
pub same_order : (text : List ℕ) (params : Row) (terms : List Term) (a b : Row) (x y : AnswerRow)
    → answer_of_row a ≡ Some x → answer_of_row b ≡ Some y
    → by_order (query Answers text params terms listing) a b ≡ listing_cmp x y
same_order text params terms a b x y p q =
    let one = has_columns a x p in
    let two = has_columns b y q in
    rw (
      one.entrant,
      one.number,
      one.n,
      one.token,
      two.entrant,
      two.number,
      two.n,
      two.token,
      value_cmp-Text x.key.entrant y.key.entrant,
      value_cmp-Int (pos x.key.number) (pos y.key.number),
      value_cmp-Int (pos x.n) (pos y.n),
      value_cmp-Text x.key.token y.key.token,
      int_as_nat x.key.number y.key.number,
      int_as_nat x.n y.n,
      then-Equal (slice_cmp nat_cmp x.key.token y.key.token),
    )

-- ORDER BY entrant, round, number, token is the order of keys
by_key : (a b : Row) (x y : AnswerRow) → answer_of_row a ≡ Some x → answer_of_row b ≡ Some y
    → by_order all_answers a b ≡ answer_cmp x.key y.key
by_key a b x y p q =
    let one = has_columns a x p in
    let two = has_columns b y q in
    rw (
      one.entrant,
      one.round,
      one.number,
      one.token,
      two.entrant,
      two.round,
      two.number,
      two.token,
      value_cmp-Text x.key.entrant y.key.entrant,
      value_cmp-Text x.key.round y.key.round,
      value_cmp-Int (pos x.key.number) (pos y.key.number),
      value_cmp-Text x.key.token y.key.token,
      int_as_nat x.key.number y.key.number,
      then-Equal (slice_cmp nat_cmp x.key.token y.key.token),
    )

pub all_answers_listed : (schema : Schema) → IsVersion schema → (old new : State) → old.now.schema ≡ schema
    → AreKeyedIn schema old.now.trees
    → IsDatabase old.now → (rows : List Row) (out : List AnswerRow) → map answer_in rows ≡ map Some out
    → Shown ALL_ANSWERS.now [] old new rows
    → out ≡ values (world_of old.now.trees).answers
all_answers_listed schema version old new has keyed sound =
    let db = old.now.trees in
    let whole = answers_listed version db (keyed_in schema Answers db version keyed)
    (subst (λ s. IsDatabase (record { schema = s; trees = db })) has sound) in
    all_listed (all_answers_are schema version) answer_total same_answer_keys (λ (row : AnswerRow). row.key) by_key old
    new has whole

-- what a query in the order of listings gives of the world's answers
module _ (old new : State) (has : IsHallSchema old.now.schema) (keyed : AreKeyed (old.now.trees 9))
    (sound : IsDatabase old.now)
    (rows : List Row) (out : List AnswerRow) (is : map answer_in rows ≡ map Some out) where
  said : (u : Wording) × (old.now.schema ≡ hall_in u)
  said = worded old.now.schema has

  listed_by : {text : List ℕ} {params : Row} {terms : List Term}
      → ((u : Wording) → Computes (query Answers text params terms listing) (hall_in u))
      → (test : AnswerRow → Bool)
      → ((r : Row) (x : AnswerRow) → answer_of_row r ≡ Some x
      → passes (query Answers text params terms listing) r ≡ test x)
      → Shown text params old new rows → IsListing (world_of old.now.trees) test out
  listed_by {text} {params} {terms} computes test agrees shown =
      let db = old.now.trees in
      record {
        whole = records_asked (computes said.0) old new rows out said.1 shown is test agrees
            (values (world_of db).answers)
            (answers_listed {schema = old.now.schema} (inr has) db keyed sound);
        in_order = records_sorted (computes said.0) old new rows out said.1 shown is listing_cmp
            (same_order text params terms);
      }

  pub in_agrees : (round : List ℕ) (r : Row) (x : AnswerRow) → answer_of_row r ≡ Some x
      → passes (answers_in round) r ≡ is_in round x
  in_agrees round r x h = and_true _ ∙ column_same (column r 2) x.key.round round (has_columns r x h).round

  -- so does round = ?1 AND entrant > ?2 AND entrant <= ?3
  pub between_agrees : (round : List ℕ) (after last : Option (List ℕ)) (r : Row) (x : AnswerRow)
      → answer_of_row r ≡ Some x
      → passes (answers_between round after last) r ≡ is_between round after last x
  between_agrees round after last r x h =
      let it = has_columns r x h in
      let entrant = x.key.entrant in
      both (column_same (column r 2) x.key.round round it.round)
      (both (column_above (column r 1) entrant (text_before after) it.entrant ∙ name_after after entrant it.named)
      (and_true _ ∙ column_up_to (column r 1) entrant (text_up_to last) it.entrant ∙ name_up_to last entrant it.named))
    where
      both : {a b c d : Bool} → a ≡ c → b ≡ d → a && b ≡ c && d
      both {a} {b} {c} {d} p q = ap (λ x. x && b) p ∙ ap (λ x. c && x) q

  of_agrees : (entrant round : List ℕ) (r : Row) (x : AnswerRow) → answer_of_row r ≡ Some x
      → passes (answers_of entrant round) r ≡ is_of entrant round x
  of_agrees entrant round r x h =
      let it = has_columns r x h in
      ap (λ b. b && (list_all (holds ((Text entrant ∷ Text round ∷ []) ∷ r ∷ [])) (equals 1 0 ∷ [])))
      (column_same (column r 2) x.key.round round it.round)
      ∙ ap (λ b. is_in round x && b) (and_true _ ∙ column_same (column r 1) x.key.entrant entrant it.entrant)

  pub answers_in_listed : (round : List ℕ) → Shown ANSWERS_IN.now (Text round ∷ []) old new rows
      → IsListing (world_of old.now.trees) (is_in round) out
  answers_in_listed round = listed_by (answers_in_is round) (is_in round) (in_agrees round)

  pub answers_of_listed : (entrant round : List ℕ) → Shown ANSWERS_OF.now (Text entrant ∷ Text round ∷ []) old new rows
      → IsListing (world_of old.now.trees) (is_of entrant round) out
  answers_of_listed entrant round =
      listed_by (answers_of_is entrant round) (is_of entrant round) (of_agrees entrant round)
