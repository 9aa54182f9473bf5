-- What the queries on places say of the world.
use Rattle.std.proofs.Common.{◌≡◌, ◌&&◌, ℕ, pos, List, [], ◌∷◌, map, filter, flat_map, Bool, true, Some, option_to_list}
use Rattle.std.proofs.Common.{Contains, sym, ap, ap₂, subst, ◌∙◌, ◌+◌, ◌<◌, length, arith, inr}
use Rattle.std.proofs.lemmas.List.{get_or-map, length-map}
use Rattle.std.proofs.lemmas.List.Kept.{Contains-dedup, Contains-from_dedup, IsStrictlySortedBy-dedup}
use Rattle.std.proofs.lemmas.Cmp.{tied_itself}
use Rattle.std.specs.Cmp.Lexicographic.{nat_list_eq_equiv, texts_ties}
use Rattle.std.specs.List.{dedup}
use Rattle.std.specs.List.Sorted.{IsPermutation, IsSorted, IsStrictlySortedBy}
use Rattle.std.specs.Ordering.{is_lt, nat_cmp, ordering_then}
use Rattle.std.specs.FinMap.{FinMap, get, values, entries}
use Rattle.sqlite.specs.declared.types.Value.TheVariants.{Int, Text}
use Rattle.sqlite.specs.Effect.{IsDatabase}
use Rattle.sqlite.specs.Order.{Row}
use Rattle.sqlite.specs.State.{State, Shown}
use Rattle.sqlite.specs.Tree.{Trees}
use Rattle.sqlite_schema.specs.Rules.{agree}
use Rattle.sqlite_rules.proofs.ListLemmas.{all_has}
use Rattle.sqlite_value.specs.Keys.{plain, first_key}
use Rattle.sqlite_value.specs.Order.{column}
use Rattle.sqlite_value.proofs.OrderLemmas.{then-Equal, value_cmp-Int, value_cmp-Text}
use Rattle.hall_policy.specs.Limits.{most_number, most_points}
use Rattle.hall_policy.specs.Text.{is_word_byte, text_cmp}
use Rattle.hall_policy.specs.Rules.{ListsEntry}
use Rattle.hall_policy.specs.World.{World, place_cmp, same_text}
use Rattle.hall_policy.specs.declared.record.Entry.{Entry}
use Rattle.hall_policy.specs.declared.record.PlaceKey.{PlaceKey}
use Rattle.hall_policy.specs.declared.record.PuzzleKey.{PuzzleKey}
use Rattle.hall_policy.proofs.Orders.{place_total, same_place_keys, text_total}
use Rattle.hall_policy.proofs.Texts.{text_decides}
use Rattle.hall_store.specs.Store.{AreUsing}
use Rattle.hall_store.proofs.Tests.{puzzle_decides}
use Rattle.hall_sql.specs.Tables.{IsHallSchema}
use Rattle.hall_sql.proofs.Wordings.{Wording, hall_in, worded}
use Rattle.hall_sql.specs.Values.{name_in, within}
use Rattle.hall_sql.specs.Rows.{kept, place_in, place_of_row, world_of}
use Rattle.hall_sql.specs.Places.{has_puzzle, is_in_round, number_cmp, round_cmp, ArePlaces, ArePlacesWith, AreListed}
use Rattle.hall_sql.specs.Standing.{AreKeyed, AreKeyedIn}
use Rattle.hall_sql.specs.declared.rounds.TheConstants.{PLACES_WITH, PLACES_OF, ALL_PLACES}
use Rattle.hall_sql.proofs.AmongLemmas.{mapped, mapped_from}
use Rattle.hall_sql.proofs.ColumnLemmas.{int_as_nat, kind_column, number_column, column_same, and_true}
use Rattle.hall_sql.proofs.EntryListings.{are_entries, rise_strictly}
use Rattle.hall_sql.proofs.ListedLemmas.{records_asked, records_sorted}
use Rattle.hall_sql.proofs.UniqueLemmas.{equal_texts, equal_numbers, records_listed}
use Rattle.hall_sql.proofs.EntryLemmas.{entries_kept}
use Rattle.hall_sql.proofs.RecordParts.{place_parts_of}
use Rattle.hall_sql.specs.Versions.{IsVersion}
use Rattle.sqlite.specs.Schema.{Schema}
use Rattle.hall_sql.specs.declared.tables.HallTable.TheVariants.{Places}
use Rattle.hall_sql.proofs.Versions.{all_listed, keyed_in, unique_in}
use Rattle.hall_sql.proofs.RoundQueries.{all_places, all_places_are, places_of, places_of_is, places_with}
use Rattle.hall_sql.proofs.RoundQueries.{places_with_is}
use Rattle.hall_sql.proofs.Queries.{by_order, passes}

abbrev pub Place : Type 0
Place = PlaceKey × Entry

abbrev pub key_of : Place → PlaceKey
key_of place = place.0

-- the columns of a place and of the puzzle there
pub record HasColumns (r : Row) (place : Place) : Type 0 where
  pub round : column r 1 ≡ Text place.0.round
  pub number : column r 2 ≡ Int (pos place.0.number)
  pub author : column r 3 ≡ Text place.1.puzzle.author
  pub label : column r 4 ≡ Text place.1.puzzle.label

pub has_columns : (r : Row) (place : Place) → place_of_row r ≡ Some place → HasColumns r place
has_columns r place is =
    let it = place_parts_of (name_in (column r 1)) (within 1 most_number (column r 2)) (name_in (column r 3))
    (name_in (column r 4))
    (within 1 most_points (column r 5)) place is in
    record {
      round = kind_column 1 24 is_word_byte (column r 1) place.0.round it.round;
      number = number_column 1 most_number (column r 2) place.0.number it.number;
      author = kind_column 1 24 is_word_byte (column r 3) place.1.puzzle.author it.author;
      label = kind_column 1 24 is_word_byte (column r 4) place.1.puzzle.label it.label;
    }

-- two rows of one place agree on the columns of the primary key
agreeing : (r y : Row) (x z : Place) → place_of_row r ≡ Some x → place_of_row y ≡ Some z → key_of x ≡ key_of z
    → agree plain (1 ∷ 2 ∷ []) y (1 ∷ 2 ∷ []) r ≡ true
unfolding first_key
agreeing r y x z p q e =
    let one = has_columns r x p in
    let two = has_columns y z q in
    rw (
      one.round,
      one.number,
      two.round,
      two.number,
      equal_texts z.0.round x.0.round (ap (λ (k : PlaceKey). k.round) (sym e)),
      equal_numbers z.0.number x.0.number (ap (λ (k : PlaceKey). k.number) (sym e)),
    )

-- the places of the rows, each with its puzzle
abbrev pub placed : List Row → FinMap place_cmp Place
placed rows = kept place_cmp key_of place_of_row rows

-- the table's records are these, each once
pub places_listed : {schema : Schema} → IsVersion schema → (db : Trees) → AreKeyed (db 7)
    → IsDatabase (record { schema = schema; trees = db })
    → IsPermutation (flat_map (λ r. option_to_list (place_of_row r)) (db 7)) (values (placed (db 7)))
places_listed {schema} version db keyed sound =
    let rule = unique_in schema Places db version sound in
    records_listed place_total same_place_keys key_of place_of_row (1 ∷ 2 ∷ []) (db 7) keyed agreeing
    (λ r h. all_has _ (db 7) r rule h)

-- those that pass, in some order, are the places that pass
pub are_places : (db : Trees) (test : Place → Bool) (out : List Place)
    → IsPermutation (filter test (values (placed (db 7)))) out
    → ArePlaces (world_of db) test out
are_places db test out same = are_entries place_total same_place_keys place_of_row (db 7) test out same

-- ---- places of one round, in the order of their numbers

by_number : (id : List ℕ) (a b : Place) → a.0.round ≡ id → b.0.round ≡ id → place_cmp a.0 b.0 ≡ number_cmp a b
by_number id a b p q =
    ap₂ (λ x y. ordering_then (text_cmp x y) (number_cmp a b)) p q
    ∙ ap (λ o. ordering_then o (number_cmp a b)) (tied_itself text_total id)

-- each of them stands there once
numbers_rise : (db : Trees) (id : List ℕ) (out : List Place)
    → IsPermutation (filter (is_in_round id) (values (placed (db 7)))) out
    → IsSorted number_cmp out → IsStrictlySortedBy number_cmp out
numbers_rise db id out same sorted =
    rise_strictly place_total same_place_keys place_of_row (db 7) (is_in_round id) out same number_cmp
    (λ a b p q. by_number id a b ((text_decides a.0.round id).0 p) ((text_decides b.0.round id).0 q)) sorted

-- what a query gives of the places
module _ (old new : State) (has : IsHallSchema old.now.schema) (keyed : AreKeyed (old.now.trees 7))
    (sound : IsDatabase old.now)
    (rows : List Row) (out : List Place) (is : map place_in rows ≡ map Some out) where
  said : (u : Wording) × (old.now.schema ≡ hall_in u)
  said = worded old.now.schema has

  whole : IsPermutation (flat_map (λ r. option_to_list (place_of_row r)) (old.now.trees 7))
      (values (placed (old.now.trees 7)))
  whole =
      let db = old.now.trees in
      places_listed {schema = old.now.schema} (inr has) db keyed sound

  with_agrees : (key : PuzzleKey) (r : Row) (x : Place) → place_of_row r ≡ Some x
      → passes (places_with key) r ≡ has_puzzle key x
  with_agrees key r x h =
      let it = has_columns r x h in
      ap₂ ◌&&◌ (column_same (column r 3) x.1.puzzle.author key.author it.author)
      (and_true _ ∙ column_same (column r 4) x.1.puzzle.label key.label it.label)

  -- ORDER BY round is the order of rounds
  same_rounds : (key : PuzzleKey) (a b : Row) (x y : Place) → place_of_row a ≡ Some x → place_of_row b ≡ Some y
      → by_order (places_with key) a b ≡ round_cmp x y
  same_rounds key a b x y p q =
      rw (
        (has_columns a x p).round,
        (has_columns b y q).round,
        value_cmp-Text x.0.round y.0.round,
        then-Equal (text_cmp x.0.round y.0.round),
      )

  pub places_with_told : (key : PuzzleKey) → Shown PLACES_WITH.now (Text key.author ∷ Text key.label ∷ []) old new rows
      → ArePlacesWith (world_of old.now.trees) key out
  places_with_told key shown = record {
    whole = are_places old.now.trees (has_puzzle key) out
        (records_asked (places_with_is key said.0) old new rows out said.1 shown is (has_puzzle key) (with_agrees key) _
        whole);
    in_order =
        records_sorted (places_with_is key said.0) old new rows out said.1 shown is round_cmp (same_rounds key);
  }

  in_agrees : (id : List ℕ) (r : Row) (x : Place) → place_of_row r ≡ Some x
      → passes (places_of id) r ≡ is_in_round id x
  in_agrees id r x h = and_true _ ∙ column_same (column r 1) x.0.round id (has_columns r x h).round

  -- ORDER BY number is the order of numbers
  same_order : (id : List ℕ) (a b : Row) (x y : Place) → place_of_row a ≡ Some x → place_of_row b ≡ Some y
      → by_order (places_of id) a b ≡ number_cmp x y
  same_order id a b x y p q =
      rw (
        (has_columns a x p).number,
        (has_columns b y q).number,
        value_cmp-Int (pos x.0.number) (pos y.0.number),
        int_as_nat x.0.number y.0.number,
        then-Equal (nat_cmp x.0.number y.0.number),
      )

  pub places_of_told : (id : List ℕ) → Shown PLACES_OF.now (Text id ∷ []) old new rows
      → AreListed (world_of old.now.trees) id out
  places_of_told id shown =
      let same = records_asked (places_of_is id said.0) old new rows out said.1 shown is (is_in_round id) (in_agrees id)
      _ whole in
      let sorted = records_sorted (places_of_is id said.0) old new rows out said.1 shown is number_cmp
      (same_order id) in
      record {
        whole = are_places old.now.trees (is_in_round id) out same;
        in_order = numbers_rise old.now.trees id out same sorted;
      }

-- ---- all places

-- ORDER BY round, number is the order of places
by_place : (a b : Row) (x y : Place) → place_of_row a ≡ Some x → place_of_row b ≡ Some y
    → by_order all_places a b ≡ place_cmp x.0 y.0
by_place a b x y p q =
    let one = has_columns a x p in
    let two = has_columns b y q in
    rw (
      one.round,
      one.number,
      two.round,
      two.number,
      value_cmp-Text x.0.round y.0.round,
      value_cmp-Int (pos x.0.number) (pos y.0.number),
      int_as_nat x.0.number y.0.number,
      then-Equal (nat_cmp x.0.number y.0.number),
    )

pub all_places_listed : (schema : Schema) → IsVersion schema → (old new : State) → old.now.schema ≡ schema
    → AreKeyedIn schema old.now.trees
    → IsDatabase old.now → (rows : List Row) (out : List Place) → map place_in rows ≡ map Some out
    → Shown ALL_PLACES.now [] old new rows
    → out ≡ entries (world_of old.now.trees).places
all_places_listed schema version old new has keyed sound rows out is shown =
    let db = old.now.trees in
    let whole = places_listed version db (keyed_in schema Places db version keyed)
    (subst (λ s. IsDatabase (record { schema = s; trees = db })) has sound) in
    all_listed (all_places_are schema version) place_total same_place_keys key_of by_place old new has whole rows out is
    shown
    ∙ entries_kept place_total same_place_keys place_of_row (db 7)

-- ---- the rounds of places

-- the order of the rounds of places
sorted_rounds : (places : List Place) → IsSorted round_cmp places
    → IsSorted text_cmp (map (λ (place : Place). place.0.round) places)
sorted_rounds places sorted k d low inside =
    let round : Place → List ℕ = λ place. place.0.round in
    let any : Place = (
      record { round = d; number = 0 },
      record {
        puzzle = record { author = d; label = d };
        points =
            0;
      },
    ) in
    let within : k + 1 < length places = omega (arith, length-map places round, inside) in
    ap₂ (λ a b. is_lt (text_cmp a b)) (get_or-map round places (k + 1) any d within)
    (get_or-map round places k any d (omega (arith, within)))
    ∙ sorted k any low within

-- the rounds of the places that have the puzzle are those that have it
module _ (world : World) (key : PuzzleKey) (places : List Place) (are : ArePlacesWith world key places) where
  abbrev rounds : List (List ℕ)
  rounds = map (λ (place : Place). place.0.round) places

  there : (id : List ℕ) → Contains rounds id → (entry : Entry) × ListsEntry world id entry × (entry.puzzle ≡ key)
  there id among =
      let it = mapped_from (λ (place : Place). place.0.round) places id among in
      let place : Place = it.0 in
      let fact = (are.whole place).0 it.1 in
      let own : place.0 ≡ (let k : PlaceKey = record { round = id; number = place.0.number } in k) =
      λ i. record { round = it.2 i; number = place.0.number } in (
        place.1,
        (place.0.number, subst (λ k. get world.places k ≡ Some place.1) own fact.0),
        (puzzle_decides place.1.puzzle key).0 fact.1,
      )

  back : (id : List ℕ) → (entry : Entry) × ListsEntry world id entry × (entry.puzzle ≡ key) → Contains rounds id
  back id h =
      let place : Place = (record { round = id; number = h.1.0 }, h.0) in
      mapped (λ (place : Place). place.0.round) places place
      ((are.whole place).1 (h.1.1, (puzzle_decides h.0.puzzle key).1 h.2))

  pub using_told : (ids : List (List ℕ)) → ids ≡ dedup same_text rounds → AreUsing world key ids
  using_told ids is = record {
    whole = λ id. (
      (λ among. there id (Contains-from_dedup same_text rounds id (subst (λ l. Contains l id) is among))),
      (λ h. subst (λ l. Contains l id) (sym is) (Contains-dedup nat_list_eq_equiv (λ x y. (text_decides x y).0) rounds
          id (back id h))),
    );
    in_order = subst (IsStrictlySortedBy text_cmp) (sym is)
        (IsStrictlySortedBy-dedup text_total (λ x y. texts_ties x y) rounds (sorted_rounds places are.in_order));
  }
