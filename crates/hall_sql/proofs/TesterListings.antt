-- What the query for the testers of a round says of the world.
use Rattle.std.proofs.Common.{◌≡◌, ◌↔◌, ◌==◌, ℕ, List, [], ◌∷◌, length, map, flat_map, Bool, true, false, not, Some}
use Rattle.std.proofs.Common.{option_to_list, Contains, refl, sym, ap, ap₂, subst, ◌∙◌, arith}
use Rattle.std.proofs.lemmas.Bool.Decides.{nat_tests}
use Rattle.std.proofs.lemmas.Cmp.{tied_itself}
use Rattle.std.proofs.lemmas.Map.Keys.{IsDistinct-from_sorted}
use Rattle.std.proofs.lemmas.Map.Made.{AllPairs-from_IsDistinct}
use Rattle.std.specs.Bool.{Decides}
use Rattle.std.specs.Cmp.Lexicographic.{texts_ties}
use Rattle.std.specs.List.{AllByRecursion}
use Rattle.std.specs.List.Sorted.{IsPermutation, IsStrictlySortedBy}
use Rattle.std.specs.Ordering.{eq_by_cmp, ordering_then}
use Rattle.std.specs.declared.cmp.Ordering.{Ordering}
use Rattle.std.specs.declared.cmp.Ordering.TheVariants.{Less}
use Rattle.std.specs.FinMap.{FinMap, empty, entries, get, len-empty, len-entries, same_entries_map, values}
use Rattle.sqlite.specs.declared.types.Value.TheVariants.{Text}
use Rattle.sqlite.specs.Effect.{IsDatabase}
use Rattle.sqlite.specs.Order.{Row}
use Rattle.sqlite.specs.State.{State, Shown}
use Rattle.sqlite.specs.Tree.{Trees}
use Rattle.sqlite_schema.specs.Rules.{agree}
use Rattle.sqlite_rules.proofs.ListLemmas.{all_has}
use Rattle.sqlite_value.specs.Keys.{plain, first_key}
use Rattle.sqlite_value.specs.Order.{column}
use Rattle.sqlite_value.proofs.OrderLemmas.{then-Equal, value_cmp-Text}
use Rattle.hall_policy.specs.Text.{is_word_byte, text_cmp}
use Rattle.hall_policy.specs.World.{World, IsTesterOf, tester_cmp}
use Rattle.hall_policy.specs.declared.record.TesterKey.{TesterKey}
use Rattle.hall_policy.proofs.Orders.{tester_total, same_tester_keys, text_total}
use Rattle.hall_policy.proofs.Texts.{text_decides}
use Rattle.hall_store.specs.Store.{AreTestersOf}
use Rattle.hall_sql.specs.Tables.{IsHallSchema}
use Rattle.hall_sql.proofs.Wordings.{Wording, hall_in, worded}
use Rattle.hall_sql.specs.Values.{name_in}
use Rattle.hall_sql.specs.Rows.{kept, tester_in, tester_of_row, world_of}
use Rattle.hall_sql.specs.RoundPuts.{tester_key}
use Rattle.hall_sql.specs.Testers.{tests_round, name_cmp, AreNamed}
use Rattle.hall_sql.specs.Standing.{AreKeyed}
use Rattle.hall_sql.specs.declared.testers.TheConstants.{ALL_TESTERS, TESTERS_OF}
use Rattle.hall_sql.proofs.AmongLemmas.{mapped, mapped_from}
use Rattle.hall_sql.proofs.ColumnLemmas.{kind_column, column_same, and_true}
use Rattle.hall_sql.proofs.EntryListings.{are_entries, rise_strictly}
use Rattle.hall_sql.proofs.ListedLemmas.{records_asked, records_sorted}
use Rattle.hall_sql.proofs.EntryLemmas.{entries_kept}
use Rattle.hall_sql.proofs.ValueLemmas.{no_more}
use Rattle.hall_sql.specs.declared.tables.HallTable.TheVariants.{Testers}
use Rattle.sqlite.specs.Schema.{Schema}
use Rattle.hall_sql.proofs.Versions.{all_listed, unique_in}
use Rattle.hall_sql.proofs.UniqueLemmas.{equal_texts, records_listed}
use Rattle.hall_sql.proofs.RecordParts.{tester_parts_of}
use Rattle.hall_sql.proofs.TesterTexts.{all_testers, all_testers_are, testers_of, testers_of_is}
use Rattle.hall_sql.proofs.Queries.{by_order, passes}

abbrev pub Tester : Type 0
Tester = TesterKey × Unit {0}

abbrev pub key_of : Tester → TesterKey
key_of tester = tester.0

-- the columns of a tester
pub record HasColumns (r : Row) (tester : Tester) : Type 0 where
  pub round : column r 1 ≡ Text tester.0.round
  pub name : column r 2 ≡ Text tester.0.name

pub has_columns : (r : Row) (tester : Tester) → tester_of_row r ≡ Some tester → HasColumns r tester
has_columns r tester is =
    let it = tester_parts_of (name_in (column r 1)) (name_in (column r 2)) tester is in
    record {
      round = kind_column 1 24 is_word_byte (column r 1) tester.0.round it.round;
      name = kind_column 1 24 is_word_byte (column r 2) tester.0.name it.name;
    }

-- two rows of one tester agree on the columns of the primary key
agreeing : (r y : Row) (x z : Tester) → tester_of_row r ≡ Some x → tester_of_row y ≡ Some z → key_of x ≡ key_of z
    → agree plain (1 ∷ 2 ∷ []) y (1 ∷ 2 ∷ []) r ≡ true
unfolding first_key
agreeing r y x z p q e =
    let one = has_columns r x p in
    let two = has_columns y z q in
    rw (
      one.round,
      one.name,
      two.round,
      two.name,
      equal_texts z.0.round x.0.round (ap (λ (k : TesterKey). k.round) (sym e)),
      equal_texts z.0.name x.0.name (ap (λ (k : TesterKey). k.name) (sym e)),
    )

-- the testers of the rows
abbrev pub tested : List Row → FinMap tester_cmp Tester
tested rows = kept tester_cmp key_of tester_of_row rows

-- the table's records are these, each once
pub testers_listed : {schema : Schema} → IsHallSchema schema → (db : Trees) → AreKeyed (db 14)
    → IsDatabase (record { schema = schema; trees = db })
    → IsPermutation (flat_map (λ r. option_to_list (tester_of_row r)) (db 14)) (values (tested (db 14)))
testers_listed {schema} has db keyed sound =
    let rule = unique_in schema Testers db has sound in
    records_listed tester_total same_tester_keys key_of tester_of_row (1 ∷ 2 ∷ []) (db 14) keyed agreeing
    (λ r h. all_has _ (db 14) r rule h)

-- ---- the testers of one round, in the order of their names

by_name : (id : List ℕ) (a b : Tester) → a.0.round ≡ id → b.0.round ≡ id → tester_cmp a.0 b.0 ≡ name_cmp a b
by_name id a b p q =
    ap₂ (λ x y. ordering_then (text_cmp x y) (name_cmp a b)) p q
    ∙ ap (λ o. ordering_then o (name_cmp a b)) (tied_itself text_total id)

-- what the query gives of the testers
module _ (old new : State) (has : IsHallSchema old.now.schema) (keyed : AreKeyed (old.now.trees 14))
    (sound : IsDatabase old.now)
    (rows : List Row) (out : List Tester) (is : map tester_in rows ≡ map Some out) (id : List ℕ) where
  said : (u : Wording) × (old.now.schema ≡ hall_in u)
  said = worded old.now.schema has

  whole : IsPermutation (flat_map (λ r. option_to_list (tester_of_row r)) (old.now.trees 14))
      (values (tested (old.now.trees 14)))
  whole =
      let db = old.now.trees in
      testers_listed {schema = old.now.schema} has db keyed sound

  in_agrees : (r : Row) (x : Tester) → tester_of_row r ≡ Some x → passes (testers_of id) r ≡ tests_round id x
  in_agrees r x h = and_true _ ∙ column_same (column r 1) x.0.round id (has_columns r x h).round

  -- ORDER BY name is the order of names
  same_order : (a b : Row) (x y : Tester) → tester_of_row a ≡ Some x → tester_of_row b ≡ Some y
      → by_order (testers_of id) a b ≡ name_cmp x y
  same_order a b x y p q =
      rw (
        (has_columns a x p).name,
        (has_columns b y q).name,
        value_cmp-Text x.0.name y.0.name,
        then-Equal (text_cmp x.0.name y.0.name),
      )

  pub testers_of_named : Shown TESTERS_OF.now (Text id ∷ []) old new rows → AreNamed (world_of old.now.trees) id out
  testers_of_named shown =
      let same = records_asked (testers_of_is id said.0) old new rows out said.1 shown is (tests_round id) in_agrees _
      whole in
      let sorted = records_sorted (testers_of_is id said.0) old new rows out said.1 shown is name_cmp same_order in
      record {
        whole = are_entries tester_total same_tester_keys tester_of_row (old.now.trees 14) (tests_round id) out same;
        in_order = rise_strictly tester_total same_tester_keys tester_of_row (old.now.trees 14) (tests_round id) out
            same name_cmp
            (λ a b p q. by_name id a b ((text_decides a.0.round id).0 p) ((text_decides b.0.round id).0 q)) sorted;
      }

-- ---- all testers, in the order of their keys

-- ORDER BY round, name is the order of keys
by_tester : (a b : Row) (x y : Tester) → tester_of_row a ≡ Some x → tester_of_row b ≡ Some y
    → by_order all_testers a b ≡ tester_cmp x.0 y.0
by_tester a b x y p q =
    let one = has_columns a x p in
    let two = has_columns b y q in
    rw (
      one.round,
      one.name,
      two.round,
      two.name,
      value_cmp-Text x.0.round y.0.round,
      value_cmp-Text x.0.name y.0.name,
      then-Equal (text_cmp x.0.name y.0.name),
    )

pub all_testers_listed : (old new : State) → IsHallSchema old.now.schema → AreKeyed (old.now.trees 14)
    → IsDatabase old.now
    → (rows : List Row) (out : List Tester) → map tester_in rows ≡ map Some out → Shown ALL_TESTERS.now [] old new rows
    → out ≡ entries (world_of old.now.trees).testers
all_testers_listed old new has keyed sound rows out is shown =
    let db = old.now.trees in
    let whole = testers_listed {schema = old.now.schema} has db keyed sound in
    all_listed (all_testers_are old.now.schema has) tester_total same_tester_keys key_of by_tester old new refl whole
    rows out is shown
    ∙ entries_kept tester_total same_tester_keys tester_of_row (db 14)

-- a map is empty where it has no entry
pub empty_entries : {K X : Type 0} {R : K → K → Ordering} (m : FinMap R X) → entries m ≡ [] → m ≡ empty
empty_entries {X = X} {R = R} m is =
    same_entries_map m empty (is ∙ sym (no_more (entries (empty {X = X} {R = R}))
    (sym (len-entries (empty {X = X} {R = R})) ∙ len-empty R X)))

pub entries_empty : {K X : Type 0} {R : K → K → Ordering} (m : FinMap R X) → m ≡ empty → entries m ≡ []
entries_empty {X = X} {R = R} m is =
    ap entries is ∙ no_more (entries (empty {X = X} {R = R}))
    (sym (len-entries (empty {X = X} {R = R})) ∙ len-empty R X)

-- no tester was listed where there is none
pub none_told : (world : World) (out : List Tester) (empties : Bool) → empties ≡ (length out == 0)
    → out ≡ entries world.testers
    → (not empties ≡ false) ↔ (world.testers ≡ empty)
none_told world [] empties is so = (λ _. empty_entries world.testers (sym so), λ _. ap not is)
none_told world (x ∷ xs) empties is so = (
  λ e. absurd (let some : (length (x ∷ xs) == 0) ≡ false = grind (arith, nat_tests) in let no : true ≡ false = sym
      (ap not (is ∙ some)) ∙ e in cc),
  λ e. absurd (let no : x ∷ xs ≡ [] = so ∙ entries_empty world.testers e in cc),
)

-- ---- their names

abbrev name_of : Tester → List ℕ
name_of tester = tester.0.name

names_rise : (testers : List Tester) → IsStrictlySortedBy name_cmp testers
    → IsStrictlySortedBy text_cmp (map name_of testers)
unfolding IsStrictlySortedBy
names_rise [] up = tt
names_rise (t ∷ ts) up = (each ts up.0, names_rise ts up.1)
  where
    each : (ts : List Tester) → AllByRecursion (λ b. name_cmp t b ≡ Less) ts
        → AllByRecursion (λ n. text_cmp (name_of t) n ≡ Less) (map name_of ts)
    each [] all = tt
    each (s ∷ ts) all = (all.0, each ts all.1)

equal_decides : (a b : List ℕ) → Decides (eq_by_cmp text_cmp a b) (a ≡ b)
equal_decides a b = subst (λ r. Decides r (a ≡ b)) (texts_ties a b) (text_decides a b)

module _ (world : World) (id : List ℕ) (testers : List Tester) (are : AreNamed world id testers) where
  there : (name : List ℕ) → Contains (map name_of testers) name → IsTesterOf world id name
  there name among =
      let it = mapped_from name_of testers name among in
      let fact = (are.whole it.0).0 it.1 in
      let round = (text_decides it.0.0.round id).0 fact.1 in
      let own : it.0.0 ≡ tester_key id name = λ i. record { round = round i; name = it.2 i } in
      subst (λ k. get world.testers k ≡ Some tt) own fact.0

  back : (name : List ℕ) → IsTesterOf world id name → Contains (map name_of testers) name
  back name is = mapped name_of testers (tester_key id name, tt)
      ((are.whole (tester_key id name, tt)).1 (is, (text_decides id id).1 refl))

  -- the names are those of the round's testers
  pub names_told : (names : List (List ℕ)) → names ≡ map (λ (tester : Tester). tester.0.name) testers
      → AreTestersOf world id names
  names_told names is = subst (AreTestersOf world id) (sym is) (record {
    whole = λ name. (there name, back name);
    different = AllPairs-from_IsDistinct equal_decides (map name_of testers)
        (IsDistinct-from_sorted text_cmp (map name_of testers) (names_rise testers are.in_order));
  })
