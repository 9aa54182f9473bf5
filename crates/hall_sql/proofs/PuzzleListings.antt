-- What the listings of puzzles say of the world.
use Rattle.std.proofs.Common.{◌≡◌, inr, ℕ, List, [], ◌∷◌, length, map, flat_map, true, Some, option_to_list, sym}
use Rattle.std.proofs.Common.{ap, subst, ◌∙◌}
use Rattle.std.specs.List.Sorted.{IsPermutation}
use Rattle.std.specs.FinMap.{values}
use Rattle.sqlite.specs.declared.types.Value.TheVariants.{Text}
use Rattle.sqlite.specs.Effect.{IsDatabase}
use Rattle.sqlite.specs.Order.{Row}
use Rattle.sqlite.specs.State.{State, Shown}
use Rattle.sqlite.specs.Term.{Term}
use Rattle.sqlite.specs.Tree.{Trees}
use Rattle.sqlite_schema.specs.Rules.{agree}
use Rattle.sqlite_rules.proofs.ListLemmas.{all_has}
use Rattle.sqlite_value.specs.Keys.{plain, first_key}
use Rattle.sqlite_value.specs.Order.{column}
use Rattle.sqlite_value.proofs.OrderLemmas.{then-Equal, value_cmp-Text}
use Rattle.hall_policy.specs.Text.{text_cmp}
use Rattle.hall_policy.specs.World.{puzzle_cmp, same_text}
use Rattle.hall_policy.specs.declared.record.PuzzleKey.{PuzzleKey}
use Rattle.hall_policy.specs.declared.record.PuzzleRow.{PuzzleRow}
use Rattle.hall_policy.proofs.Orders.{puzzle_total, same_puzzle_keys}
use Rattle.hall_policy.specs.Rules.{puzzles_put}
use Rattle.hall_policy.specs.World.{World}
use Rattle.hall_store.specs.Store.{puzzles_of}
use Rattle.std.proofs.lemmas.List.Sums.{length-filter}
use Rattle.hall_sql.specs.Tables.{IsHallSchema}
use Rattle.hall_sql.proofs.Wordings.{Wording, hall_in, worded}
use Rattle.hall_sql.specs.Rows.{puzzle_row_in, puzzle_of_row, world_of}
use Rattle.hall_sql.specs.Standing.{AreKeyed, AreKeyedIn}
use Rattle.hall_sql.specs.declared.puzzles.TheConstants.{ALL_PUZZLES, PUZZLES_OF}
use Rattle.hall_sql.proofs.ColumnLemmas.{and_true, column_same}
use Rattle.hall_sql.proofs.ListedLemmas.{values_asked}
use Rattle.hall_sql.specs.Statements.{equals}
use Rattle.hall_sql.proofs.PuzzleLemmas.{key_columns}
use Rattle.hall_sql.proofs.PuzzleTexts as queries
use Rattle.hall_sql.proofs.PuzzleTexts.{all_puzzles_are}
use Rattle.hall_sql.proofs.Queries.{by_order, passes, query}
use Rattle.hall_sql.proofs.UniqueLemmas.{equal_texts, records_listed}
use Rattle.hall_sql.specs.Versions.{IsVersion}
use Rattle.sqlite.specs.Schema.{Schema}
use Rattle.hall_sql.specs.declared.tables.HallTable.TheVariants.{Puzzles}
use Rattle.hall_sql.proofs.Versions.{all_listed, keyed_in, unique_in}

-- two rows of one key agree on the columns of the primary key
agreeing : (r y : Row) (x z : PuzzleRow) → puzzle_of_row r ≡ Some x → puzzle_of_row y ≡ Some z → x.key ≡ z.key
    → agree plain (1 ∷ 2 ∷ []) y (1 ∷ 2 ∷ []) r ≡ true
unfolding first_key
agreeing r y x z p q e =
    let one = key_columns r x p in
    let two = key_columns y z q in
    rw (
      one.0,
      one.1,
      two.0,
      two.1,
      equal_texts z.key.author x.key.author (ap (λ (k : PuzzleKey). k.author) (sym e)),
      equal_texts z.key.label x.key.label (ap (λ (k : PuzzleKey). k.label) (sym e)),
    )

-- the table's records are the world's puzzles, each once
puzzles_listed : {schema : Schema} → IsVersion schema → (db : Trees) → AreKeyed (db 3)
    → IsDatabase (record { schema = schema; trees = db })
    → IsPermutation (flat_map (λ r. option_to_list (puzzle_of_row r)) (db 3)) (values (world_of db).puzzles)
puzzles_listed {schema} version db keyed sound =
    let rule = unique_in schema Puzzles db version sound in
    records_listed puzzle_total same_puzzle_keys (λ (row : PuzzleRow). row.key) puzzle_of_row (1 ∷ 2 ∷ []) (db 3) keyed
    agreeing
    (λ r h. all_has _ (db 3) r rule h)

-- ORDER BY author, label is the order of keys
same_order : (text : List ℕ) (params : Row) (terms : List Term) (a b : Row) (x y : PuzzleRow)
    → puzzle_of_row a ≡ Some x → puzzle_of_row b ≡ Some y
    → by_order (query Puzzles text params terms (1 ∷ 2 ∷ [])) a b ≡ puzzle_cmp x.key y.key
same_order text params terms a b x y p q =
    let one = key_columns a x p in
    let two = key_columns b y q in
    rw (
      one.0,
      one.1,
      two.0,
      two.1,
      value_cmp-Text x.key.author y.key.author,
      value_cmp-Text x.key.label y.key.label,
      then-Equal (text_cmp x.key.label y.key.label),
    )

pub all_puzzles_listed : (schema : Schema) → IsVersion schema → (old new : State) → old.now.schema ≡ schema
    → AreKeyedIn schema old.now.trees
    → IsDatabase old.now → (rows : List Row) (out : List PuzzleRow) → map puzzle_row_in rows ≡ map Some out
    → Shown ALL_PUZZLES.now [] old new rows → out ≡ values (world_of old.now.trees).puzzles
all_puzzles_listed schema version old new has keyed sound =
    let db = old.now.trees in
    let whole = puzzles_listed version db (keyed_in schema Puzzles db version keyed)
    (subst (λ s. IsDatabase (record { schema = s; trees = db })) has sound) in
    all_listed (all_puzzles_are schema version) puzzle_total same_puzzle_keys (λ (row : PuzzleRow). row.key)
    (same_order ALL_PUZZLES.now [] []) old new has whole

-- the author's puzzles are as many as the rules count
pub puzzles_counted : (world : World) (author : List ℕ) → length (puzzles_of world author) ≡ puzzles_put world author
puzzles_counted world author =
    length-filter (λ (row : PuzzleRow). same_text row.key.author author) (values world.puzzles)

-- what a query in the order of keys gives of the world's puzzles
module _ (old new : State) (has : IsHallSchema old.now.schema) (keyed : AreKeyed (old.now.trees 3))
    (sound : IsDatabase old.now)
    (rows : List Row) (out : List PuzzleRow) (is : map puzzle_row_in rows ≡ map Some out) where
  said : (u : Wording) × (old.now.schema ≡ hall_in u)
  said = worded old.now.schema has

  whole : IsPermutation (flat_map (λ r. option_to_list (puzzle_of_row r)) (old.now.trees 3))
      (values (world_of old.now.trees).puzzles)
  whole =
      let db = old.now.trees in
      puzzles_listed {schema = old.now.schema} (inr has) db keyed sound

  by_author : (author : List ℕ) (r : Row) (x : PuzzleRow) → puzzle_of_row r ≡ Some x
      → passes (queries.puzzles_of author) r ≡ same_text x.key.author author
  by_author author r x h = and_true _ ∙ column_same (column r 1) x.key.author author (key_columns r x h).0

  pub puzzles_of_listed : (author : List ℕ) → Shown PUZZLES_OF.now (Text author ∷ []) old new rows
      → out ≡ puzzles_of (world_of old.now.trees) author
  puzzles_of_listed author shown =
      values_asked (queries.puzzles_of_is author said.0) old new rows out said.1 shown is
      (λ row. same_text row.key.author author) (by_author author) puzzle_total same_puzzle_keys
      (λ (row : PuzzleRow). row.key) whole (same_order PUZZLES_OF.now (Text author ∷ []) (equals 1 0 ∷ []))
